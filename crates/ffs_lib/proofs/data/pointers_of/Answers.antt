use Rattle.std.proofs.Common.{◌≡◌, ◌∙◌, ℕ, List, ap, inr, length, subst, sym}
use Rattle.ffs_lib.proofs.Common.{IsLibrary, latest, word_at}
use Rattle.ffs_lookup.proofs.ForCallers.{same_ok}
use Rattle.ffs_lib.specs.Orders.{Action, act_of}
use Rattle.ffs_lib.proofs.Tests.{never}
use Rattle.ffs_lib.proofs.Actions.{pointers_none}
use Rattle.ffs_lib.proofs.DataLaws.{points_there}
use Rattle.ffs_lib.proofs.Waiting.{waits_same}
use Rattle.ffs_lib.proofs.data.pointers_of.Goals as goal

pub returns-in_err-find_file-clause-ends : goal.returns-in_err-find_file-clause-ends
returns-in_err-find_file-clause-ends g c = λ T array inode index far e s is long given.
    absurd (never inode _ (is ∙ sym (c.in_err-find_file.ensures.exact (subst IsLibrary (sym e) s.library))))

pub returns-then-indirect-ne0-clause-ends : goal.returns-then-indirect-ne0-clause-ends
returns-then-indirect-ne0-clause-ends g c = λ T array inode index far e s is long given.
    let old = g.S.Store.state_of c.args.store.now in
    let exact = c.in_ok-find_file.ensures.exact (subst IsLibrary (sym e) s.library) in
    let block = c.indirect-indirect.result in
    let same : word_at inode 56 ≡ block = ap (λ (m : List ℕ). word_at m 56) (same_ok inode c.in_ok-find_file.field-0.inode (is ∙ sym exact)) ∙ sym c.indirect-indirect.ensures in
    let there = c.if-indirect-ne0.true in
    let fs = c.args.fs.number in (
      s,
      (
        (points_there old fs _ inode block is same there (ap (λ b. length (latest old.lives b)) (sym same) ∙ long (λ z. there (sym same ∙ z))), λ last z. waits_same fs _ old last),
        ap (λ (a : Action). act_of T fs a old) (sym (pointers_none (latest old.lives) fs _ inode index c.args.after is (inr (λ z. there (sym same ∙ z))))),
      ),
    )

pub returns-clause-ends : goal.returns-clause-ends
returns-clause-ends g c = λ T array inode index far e s is long given.
    let same = ap (λ (m : List ℕ). word_at m 56) (same_ok inode c.in_ok-find_file.field-0.inode (is ∙ sym (c.in_ok-find_file.ensures.exact (subst IsLibrary (sym e) s.library)))) in
    c.add_pointers.ensures.ends T array inode index far e s is (same ∙ (sym c.indirect-indirect.ensures ∙ c.if-indirect-ne0.false)) given
