-- What a session tells of blocks, inodes and names.
use Rattle.std.proofs.Common.{◌≡◌, ◌<◌, ◌≤◌, arith, get_or, length, take, ℕ, ◌+◌, Bool, true, false, List, [], ◌∷◌, map, Option, Some, None, Result, Ok, Err, refl, sym, ◌∙◌, ap, subst}
use Rattle.std.specs.Prelude.{IsSomeAnd, IsTrue, cond, count_by, is_ok, is_some, if◌then◌else◌}
use Rattle.std.specs.List.{range_with_len}
use Rattle.std.proofs.lemmas.List.{take_all}
use Rattle.std.proofs.lemmas.List.FromFn.{get_or-range_with_len, length-range_with_len}
use Rattle.std.proofs.lemmas.List.Sums.{count_by_more_no, count_by_more_yes}
use Rattle.std.specs.Borrow.{Bor}
use Rattle.udf_verify.specs.Program.{Program, tree}
use Rattle.udf_run.specs.declared.pair.Pair.{Pair}
use Rattle.udf_run.specs.Meaning.{Machine, meaning, reset}
use Rattle.templates.specs.Meaning.{numbers_of_pair, owned_by, pairs_after}
use Rattle.store_types.specs.declared.refusal.Refusal.{Refusal}
use Rattle.xn_model.specs.Calls.{kind_of, own_life, read_of}
use Rattle.xn_model.specs.Lists.{blocks_of}
use Rattle.xn_model.specs.Lives.{Life, StoreState, current}
use Rattle.xn_model.specs.Results.{Lends, result_and_then, result_map}
use Rattle.xn_model.specs.Rules.{IsConsistent}
use Rattle.xn_model.specs.Types.{Types}
use Rattle.xn_model.proofs.ForCallers.{never_ok, own_then, same_ok}
use Rattle.ffs_lookup.specs.declared.fault.FfsFault.{FfsFault}
use Rattle.ffs_lookup.specs.declared.places.Free.{Free}
use Rattle.ffs_lookup.specs.Newest.{has_free_inode, mapped, root_in}
use Rattle.xnfs_session.specs.declared.session.Usage.{Usage}
use Rattle.xnfs_session.specs.Sessions.{inode_blocks, is_used, owner_of, used_in}

-- the pairs of a run
pub emitted : (program : Program) (m : List ℕ) (items : List Pair) → IsSomeAnd (meaning (tree program) m reset) (λ end. items ≡ end.emitted) → map numbers_of_pair items ≡ owned_by program m
unfolding owned_by
emitted program m items h = go (meaning (tree program) m reset) h
  where
    go : (o : Option Machine) → IsSomeAnd o (λ end. items ≡ end.emitted) → map numbers_of_pair items ≡ pairs_after o
    go None h = absurd h
    go (Some end) h = ap (map numbers_of_pair) h

-- the type of a block is installed
pub kind_installed : (T : Types) (state : StoreState) → IsConsistent T state → (fs b ty : ℕ) → Ok ty ≡ kind_of state fs b → IsTrue (T.installed ty)
kind_installed T state rules fs b ty e = go (own_life state fs b) refl e
  where
    go : (r : Result Life Refusal) → own_life state fs b ≡ r → Ok ty ≡ result_map (λ l. l.ty) r → IsTrue (T.installed ty)
    go (Err refusal) is e = absurd (never_ok refusal ty (sym e))
    go (Ok l) is e =
        let own = own_then state fs b (λ m. Ok m) l (ap (result_and_then (λ m. Ok m)) is) in
        let life : own.0 ≡ l = same_ok own.0 l own.2 in
        let t = (rules.linked b own.0 own.1.alive).installed in
        subst (λ t. IsTrue (T.installed t)) (ap (λ (m : Life). m.ty) life ∙ sym (same_ok ty l.ty e)) t

-- what a block points to, by the pairs that its type's program emits
pub owner_told : (T : Types) (state : StoreState) (fs b ty : ℕ) (bytes : Bor (List ℕ)) (items : List Pair) (blocks : List ℕ) → Ok ty ≡ kind_of state fs b →
    Lends (read_of state fs b) (Ok bytes) → map numbers_of_pair items ≡ T.owned ty bytes.now → blocks ≡ map (λ pair. pair.block) items → owner_of T state fs b ≡ Ok (ty, blocks)
owner_told T state fs b ty bytes items blocks kind read pairs are = go (own_life state fs b) kind read
  where
    firsts : (xs : List Pair) → map (λ pair. pair.block) xs ≡ blocks_of (map numbers_of_pair xs)
    firsts [] = refl
    firsts (x ∷ xs) = ap (λ ys. x.block ∷ ys) (firsts xs)

    go : (r : Result Life Refusal) → Ok ty ≡ result_map (λ l. l.ty) r → Lends (result_map current r) (Ok bytes) →
        result_map {B = ℕ × List ℕ} (λ l. (l.ty, blocks_of (T.owned l.ty (current l)))) r ≡ Ok (ty, blocks)
    go (Err refusal) kind read = absurd read
    go (Ok l) kind read =
        let same : ty ≡ l.ty = same_ok ty l.ty kind in
        let owned : T.owned ty bytes.now ≡ T.owned l.ty (current l) = ap (λ t. T.owned t bytes.now) same ∙ ap (T.owned l.ty) read in
        let all : blocks ≡ blocks_of (T.owned l.ty (current l)) = are ∙ (firsts items ∙ ap blocks_of (pairs ∙ owned)) in
        λ i. Ok (sym same i, sym all i)

-- of the first so many inodes so many are in use
pub record UsedTo (is_used : ℕ → Bool) (index used : ℕ) : Type 0 where
  pub counted : used ≡ count_by is_used (take index (range_with_len 1 128))
  pub few : used ≤ index

pub used_more : (is_used : ℕ → Bool) (index used : ℕ) (t : Bool) → index < 128 → is_used (index + 1) ≡ t → UsedTo is_used index used → UsedTo is_used (index + 1) (cond t (used + 1) used)
used_more is_used index used t lt e h = go t (at index lt ∙ e)
  where
    at : (i : ℕ) → i < 128 → is_used (get_or (range_with_len 1 128) i 0) ≡ is_used (i + 1)
    at i lt = ap is_used (get_or-range_with_len 1 128 i 0 lt ∙ (omega arith))

    short : index < length (range_with_len 1 128)
    short = let n = length-range_with_len 1 128 in omega arith

    go : (t : Bool) → is_used (get_or (range_with_len 1 128) index 0) ≡ t → UsedTo is_used (index + 1) (cond t (used + 1) used)
    go true e = record { counted = ap (λ n. n + 1) h.counted ∙ sym (count_by_more_yes is_used (range_with_len 1 128) index 0 short e); few = let f = h.few in omega arith }
    go false e = record { counted = h.counted ∙ sym (count_by_more_no is_used (range_with_len 1 128) index 0 short e); few = let f = h.few in omega arith }

pub used_all : (content : ℕ → List ℕ) (fs used : ℕ) → UsedTo (is_used content fs) 128 used → used ≡ used_in content fs
unfolding used_in
used_all content fs used h =
    h.counted ∙ ap (count_by (is_used content fs)) (take_all 128 (range_with_len 1 128) (let n = length-range_with_len 1 128 in omega arith))

pub usage_is : (free used f u : ℕ) → free ≡ f → used ≡ u → ◌≡◌ {A = Usage} (record { free_blocks = free; used_inodes = used }) (record { free_blocks = f; used_inodes = u })
usage_is free used f u e h = λ i. record { free_blocks = e i; used_inodes = h i }

pub same_found : {A B : Type 0} (f : A → B) (r : Result A FfsFault) (s : Result B FfsFault) → mapped f r ≡ s → is_ok s ≡ is_ok r
same_found f (Ok x) s e = ap is_ok (sym e)
same_found f (Err fault) s e = ap is_ok (sym e)

-- what a new inode takes
pub new_inode_blocks : (content : ℕ → List ℕ) (fs root : ℕ) (is_new : Bool) (found : Option Free) (t : Bool) → is_new ≡ true → is_some found ≡ t → Ok root ≡ root_in content fs →
    ((r : ℕ) → Ok r ≡ root_in content fs → is_some found ≡ has_free_inode content r) → inode_blocks content fs is_new ≡ Ok (cond t 0 1)
new_inode_blocks content fs root is_new found t new some root_is free =
    subst (λ b. inode_blocks content fs b ≡ Ok (cond t 0 1)) (sym new)
    (subst (λ r. mapped {B = ℕ} (λ root. if has_free_inode content root then 0 else 1) r ≡ Ok (cond t 0 1)) root_is
    (ap (λ b. Ok (cond b 0 1)) (sym (free root root_is) ∙ some)))
