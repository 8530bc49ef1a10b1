-- The least candidate is put on a list.
use Rattle.std.proofs.Common.{◌≡◌, ◌∙◌, ℕ, ◌<◌, ◌≤◌, ◌⊎◌, Bool, true, false, List, Some, get_or, inl, inr, length, refl, ap, arith, subst, sym}
use Rattle.std.specs.Prelude.{IsTrue, cond, count_by, is_some, position, slice_set}
use Rattle.std.proofs.lemmas.List.Quantifiers.{position-Some}
use Rattle.std.proofs.lemmas.List.Sums.{sum_by-set}
use Rattle.std.proofs.lemmas.Option.{same_Some}
use Rattle.xn_model.specs.Lives.{Lives}
use Rattle.free_map.specs.Members.{is_member}
use Rattle.dependencies.specs.Candidates.{CandidatesValue, IsTrimmed, Parks}
use Rattle.dependencies.specs.WaitLists.{at}
use Rattle.dependencies.specs.Waiting.{WaitsFor}

pub stays_or_parks : (t : Bool) (old new : CandidatesValue) (b c : ℕ) → (IsTrue t → Parks old new b c) → (t ≡ false → new ≡ old) → (new ≡ old) ⊎ Parks old new b c
stays_or_parks true old new b c parks stays = inr (parks refl)
stays_or_parks false old new b c parks stays = inl (stays refl)

pub fewer_members : (old new : List Bool) (b : ℕ) → position is_member old ≡ Some b → new ≡ slice_set old b false → count_by is_member new < count_by is_member old
fewer_members old new b least now =
    let at = position-Some is_member old b false least in
    let counts = sum_by-set {X = Bool} (λ t. cond (is_member t) 1 0) old b false false at.0 in
    let one : cond (get_or old b false) 1 0 ≡ 1 = ap {B = ℕ} (λ (t : Bool). cond t 1 0) at.1 in
    omega (arith, counts, one, ap (count_by is_member) now)

pub no_least : (members : List Bool) (b : ℕ) → count_by is_member members ≡ 0 → position is_member members ≡ Some b → ⊥
no_least members b none least = absurd (omega (arith, fewer_members members (slice_set members b false) b least refl, none))

-- the least candidate waits for a block, and can't be put on its list
pub refused_trims : (lives : Lives) (old new : CandidatesValue) (block other : ℕ) → new ≡ old → Some block ≡ position is_member old.blocks → WaitsFor lives block other →
    (length old.blocks ≤ other) ⊎ IsTrue (is_some (at old.waits block)) → IsTrimmed lives new
refused_trims lives old new block other stays first waits refused = subst (IsTrimmed lives) (sym stays) (λ b least.
    subst (λ k. ((c : ℕ) → WaitsFor lives k c → ⊥) ⊎ (IsTrue (is_some (at old.waits k)) ⊎ ((c : ℕ) × (length old.blocks ≤ c) × WaitsFor lives k c)))
    (same_Some block b (first ∙ least))
    (elim refused [
      | inl past ↦ inr (inr (other, past, waits))
      | inr on_list ↦ inr (inl on_list)
    ]))
