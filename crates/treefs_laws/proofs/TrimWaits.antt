-- The waits that end a trim write nothing.
use Rattle.std.proofs.Common.{◌≡◌, ◌≢◌, ◌⊎◌, ℕ, ◌<◌, List, [], ◌∷◌, length, Result, Ok, Err, refl, sym, ◌∙◌, ap, inl, inr, subst, arith}
use Rattle.std.specs.Prelude.{MatchResult, map, slice_index}
use Rattle.xn_model.specs.Types.{Types}
use Rattle.xn_model.specs.Lives.{StoreState}
use Rattle.xn_model.specs.Calls.{propose_of}
use Rattle.xn_model.specs.Results.{Gives}
use Rattle.store_types.specs.declared.refusal.Refusal.{Refusal}
use Rattle.store_types.specs.declared.refusal.Refusal.TheVariants as refusal
use Rattle.treefs_format.specs.Fields.{fields_of}
use Rattle.treefs_format.specs.Inodes.{kind_of}
use Rattle.treefs_format.specs.declared.kind.Kind.{Kind}
use Rattle.treefs_format.specs.declared.kind.Kind.TheVariants as kind
use Rattle.treefs_model.specs.Acts.{Made, Ran, edit_in, wait_act}
use Rattle.treefs_model.specs.Reading.{files_of}
use Rattle.treefs_model.specs.declared.fault.Fault.{Fault}
use Rattle.treefs_lookup.specs.Readable.{readable}
use Rattle.treefs_edits.specs.Plans.{Does, forgotten}
use Rattle.treefs_edits.specs.declared.tree.Tree.{Tree}
use Rattle.treefs_byte_plans.specs.declared.kept.Kept.{Kept}
use Rattle.treefs.specs.Trimming.{Waits}
use Rattle.treefs_values.specs.Kinds.{kinds}
use Rattle.treefs_values.specs.Volumes.{IsVolume}
use Rattle.treefs_values.specs.Ways.{block_numbered}
use Rattle.treefs_values.proofs.ForCallers.{edit_is}
use Rattle.treefs_laws.proofs.Fading.{faded_same}
use Rattle.treefs_laws.proofs.Planned.{same_done, waits_write}
use Rattle.treefs_laws.proofs.TrimParts.{IsFileAt, Stays, stays_same, stays_then}

module _ (T : Types) (tree : Tree) (n : ℕ) (number : n ≢ 0) (c size : ℕ) (k : Kind) (no_directory : k ≢ kind.Directory) where
  abbrev fs : ℕ
  fs = tree.fs.number

  abbrev top : ℕ
  top = tree.top

  abbrev At : StoreState → Type 0
  At s = IsFileAt T tree n number c size k no_directory s

  abbrev Kept_so : StoreState → StoreState → Type 0
  Kept_so old new = Stays T tree n number c size k no_directory old new

  -- its first byte is as it was
  abbrev StaysBytes : StoreState → StoreState → Type 0
  StaysBytes old new = Kept_so old new × (readable new fs ≡ readable old fs)

  some_bytes : (old : StoreState) → At old → 0 < length (readable old fs c)
  some_bytes old at =
      let v = at.here.volume in
      let there : block_numbered (readable old fs) top n ≢ 0 = λ z. at.there (sym at.block ∙ z) in
      let typed = v.typed.inodes n there in
      let long : length (readable old fs (block_numbered (readable old fs) top n)) ≡ 512 = (v.blocks (block_numbered (readable old fs) top n) (λ z. v.some_types.1 (sym typed ∙ z))).0 in
      let same = ap (λ x. length (readable old fs x)) at.block in
      omega arith

  wait_one : (old new : StoreState) (other first entry : ℕ) → At old → first ≡ slice_index (readable old fs c) 0 → Made T fs (wait_act c (first ∷ []) other) old new (Ok entry) → StaysBytes old new
  wait_one old new other first entry at is made =
      let e = edit_is T fs (wait_act c (first ∷ []) other) old new entry at.here.store refl made in
      let reads : readable new fs ≡ readable old fs = e.reads ∙ waits_write (readable old fs) c first is (some_bytes old at) (other ∷ []) [] in (
        (
          record {
            here = record {
              store = e.store;
              root = e.root ∙ at.here.root;
              volume = subst (λ t. IsVolume tree.node_type tree.inode_type t (readable new fs) top) (sym e.types)
                  (subst (λ m. IsVolume tree.node_type tree.inode_type (kinds old fs) m top) (sym reads) at.here.volume);
            };
            block = ap (λ m. block_numbered m top n) reads ∙ at.block;
            there = at.there;
            size_is = ap (λ m. (fields_of (m (block_numbered m top n))).size) reads ∙ at.size_is;
            kind_is = ap (λ m. kind_of (fields_of (m (block_numbered m top n))).mode) reads ∙ at.kind_is;
          },
          ap (λ m. files_of m top) reads,
          faded_same (readable old fs) (readable new fs) c reads,
        ),
        reads,
      )

  none_done : {A : Type 0} (r : Result (A × StoreState) Refusal) (old new : StoreState) (reason : Refusal) → Gives r old new (Err reason) → new ≡ old
  none_done (Ok made) old new reason gives = elim gives [
    | inl done ↦ absurd (cc done.0)
    | inr none ↦ none.1
  ]
  none_done (Err other) old new reason gives = gives.1

  waits_ran : (others : List ℕ) (first : ℕ) (old new : StoreState) (result : Result (Unit {0}) Refusal) → At old → first ≡ slice_index (readable old fs c) 0 →
      Ran T fs (map (wait_act c (first ∷ [])) others) old new result → Kept_so old new
  waits_ran [] first old new result at is ran = stays_same T tree n number c size k no_directory old new at ran.1
  waits_ran (other ∷ others) first old new result at is (inl refused) = by result refused
    where
      by : (r : Result (Unit {0}) Refusal) → MatchResult r (λ x. ⊥) (λ refusal. Made T fs (wait_act c (first ∷ []) other) old new (Err refusal)) → Kept_so old new
      by (Ok done) none = absurd none
      by (Err reason) made = stays_same T tree n number c size k no_directory old new at
          (none_done (propose_of T old fs c (edit_in (wait_act c (first ∷ []) other) old)) old new reason made)
  waits_ran (other ∷ others) first old new result at is (inr r) =
      let one = wait_one old r.1 other first r.0 at is r.2 in
      stays_then T tree n number c size k no_directory old r.1 new one.0
      (λ middle. waits_ran others first r.1 new result middle (is ∙ sym (ap (λ m. slice_index (m c) 0) one.1)) r.3)

  -- no block was begun
  forgets_none : (begun : List ℕ) (left new : StoreState) → ◌≡◌ {A = Result (List ℕ) Fault} (Ok begun) (Ok []) → new ≡ forgotten T fs begun left → new ≡ left
  forgets_none [] left new none is = is
  forgets_none (b ∷ begun) left new none is = absurd (cc (same_done (b ∷ begun) [] none))

  waits_done : (others : List ℕ) (first : ℕ) (old new : StoreState) (result : Result (Unit {0}) Fault) → At old → first ≡ slice_index (readable old fs c) 0 →
      Does T fs (record { starts = []; acts = λ begun. map (wait_act c (first ∷ [])) others }) old new result → Kept_so old new
  waits_done others first old new (Ok done) at is (inl none) = absurd none
  waits_done others first old new (Err fault) at is (inl (inl lacks)) = stays_same T tree n number c size k no_directory old new at lacks.1
  waits_done others first old new (Err fault) at is (inl (inr begins)) = absurd (cc begins.0)
  waits_done others first old new (Ok done) at is (inr (begun, middle, begins, ran)) =
      waits_ran others first old new (Ok done) at is (subst (λ s. Ran T fs (map (wait_act c (first ∷ [])) others) s new (Ok done)) begins.1 ran)
  waits_done others first old new (Err fault) at is (inr (begun, middle, begins, keeps)) =
      let same = forgets_none begun keeps.0 new begins.0 keeps.4 in
      subst (Kept_so old) (sym same) (left_so keeps.0 keeps.1 keeps.3)
    where
      left_so : (left : StoreState) (reason : Refusal) → Ran T fs (map (wait_act c (first ∷ [])) others) middle left (Err reason) ⊎ ((reason ≡ refusal.NoMemory) × (left ≡ middle)) → Kept_so old left
      left_so left reason (inl ran) = waits_ran others first old left (Err reason) at is (subst (λ s. Ran T fs (map (wait_act c (first ∷ [])) others) s left (Err reason)) begins.1 ran)
      left_so left reason (inr none) = stays_same T tree n number c size k no_directory old left at (none.1 ∙ begins.1)

  pub waits_stay : (kept_is : Kept) → kept_is.inode ≡ c → (old new : StoreState) (result : Result (Unit {0}) Fault) → At old → Waits T fs kept_is old new result → Kept_so old new
  waits_stay kept_is of_inode old new result at (plan, planned, does) =
      let first_is : plan.first ≡ slice_index (readable old fs c) 0 = planned.first_is ∙ ap (λ x. slice_index (readable old fs x) 0) of_inode in
      waits_done plan.others.items plan.first old new result at first_is
      (subst (λ x. Does T fs (record { starts = []; acts = λ begun. map (wait_act x (plan.first ∷ [])) plan.others.items }) old new result) (planned.inode_is ∙ of_inode) does)
