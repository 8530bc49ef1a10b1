use Rattle.std.specs.Prelude.{IsTrue}
use Rattle.treefs_model.proofs.Kept.{end_stays, led_apart, made_stays}
use Rattle.treefs_model.proofs.law.names_stay_led.Goals as goal

pub returns-clause-edits : goal.returns-clause-edits
returns-clause-edits c = λ T edge same act old new number d n e within v. (
  λ h. made_stays T (λ w c x. IsTrue (edge w c x)) (λ lives k x. IsTrue (same lives k x)) act old new number e within d n h v,
  λ h. end_stays T (λ w c x. IsTrue (edge w c x)) (λ lives k x. IsTrue (same lives k x)) act old new number e within d n h v,
)

pub returns-clause-apart : goal.returns-clause-apart
returns-clause-apart c = λ edge fewer parent n h keeps d up apart. led_apart (λ x y. IsTrue (edge x y)) (λ x y. IsTrue (fewer x y)) parent n h keeps d up apart
