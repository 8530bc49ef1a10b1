-- Bytes are put into a bucket of a directory.
use Rattle.std.proofs.Common.{◌≡◌, ◌≢◌, ℕ, ◌+◌, ◌-◌, ◌<◌, ◌≤◌, List, [], ◌++◌, length, take, drop, Option, refl, sym, ◌∙◌, ap, inl, inr, arith, subst, eq-eqb, ne_eqb, if◌then◌else◌, length-append, length-drop, length-take-le}
use Rattle.std.specs.Prelude.{All, ◌==◌}
use Rattle.std.proofs.lemmas.Bool.{cases_eq}
use Rattle.std.proofs.lemmas.List.Elements.{All-append, All-drop, All-take}
use Rattle.xn_model.specs.Calls.{patched}
use Rattle.xn_model.specs.Lists.{put}
use Rattle.treefs_format.specs.Fields.{fields_of}
use Rattle.treefs_format.specs.Inodes.{content_of, pointers_of}
use Rattle.treefs_format.specs.Paths.{leaf_count}
use Rattle.treefs_format.proofs.ForCallers.{content_others, content_written}
use Rattle.treefs_model.specs.Acts.{Act, one_patch, patch_act}
use Rattle.treefs_model.specs.Reading.{bucket_of, leaf_block}
use Rattle.treefs_lookup.specs.Buckets.{bucket_block, bucket_start}
use Rattle.treefs_edits.specs.Written.{written}
use Rattle.treefs_values.specs.Parts.{IsChangedAt, IsPartOf}
use Rattle.treefs_values.specs.Volumes.{IsWholeBlock, IsVolume}
use Rattle.treefs_values.specs.Ways.{SamePointers, block_numbered}
use Rattle.treefs_values.proofs.Apart.{leaf_no_inode, leaves_apart}
use Rattle.treefs_values.proofs.Alike.{in_leaf}
use Rattle.treefs_values.proofs.Ways.{leaf_same}
use Rattle.treefs_values.proofs.Keeping.{keeps_data, keeps_inode}

-- Bytes

pub length_put : (m bytes : List ℕ) (at : ℕ) → at + length bytes ≤ length m → length (put m at bytes) ≡ length m
length_put m bytes at fits =
    let front = length-take-le at m (omega arith) in
    let back = length-drop (at + length bytes) m in
    length-append (take at m ++ bytes) (drop (at + length bytes) m)
    ∙ (ap (λ l. l + length (drop (at + length bytes) m)) (length-append (take at m) bytes) ∙ omega arith)

pub block_put : (m bytes : List ℕ) (at : ℕ) → IsWholeBlock m → All (λ b. b < 256) bytes → at + length bytes ≤ 512 → IsWholeBlock (put m at bytes)
block_put m bytes at is range fits =
    let long : length m ≡ 512 = is.0 in (
      length_put m bytes at (omega arith) ∙ is.0,
      All-append (λ b. b < 256) (take at m ++ bytes) (drop (at + length bytes) m) (All-append (λ b. b < 256) (take at m) bytes (All-take (λ b. b < 256) at m is.1) range)
          (All-drop (λ b. b < 256) (at + length bytes) m is.1),
    )

-- Edits

pub written_here : (act : Act) (content : ℕ → List ℕ) (b : ℕ) → b ≡ act.block → written act content b ≡ patched (content b) act.edit.patches
written_here act content b is = ap (λ t. if t then patched (content b) act.edit.patches else content b) (eq-eqb b act.block is)

pub written_other : (act : Act) (content : ℕ → List ℕ) (b : ℕ) → b ≢ act.block → written act content b ≡ content b
written_other act content b ne = ap (λ t. if t then patched (content b) act.edit.patches else content b) (ne_eqb b act.block ne)

module _ (node inode top : ℕ) (type : ℕ → ℕ) (old : ℕ → List ℕ) (v : IsVolume node inode type old top)
    (n : ℕ) (number : n ≢ 0) (there : block_numbered old top n ≢ 0) (bytes : List ℕ) (range : All (λ b. b < 256) bytes) (at : ℕ) (behind : Option ℕ) where
  abbrev c : ℕ
  c = block_numbered old top n

  abbrev block : ℕ → ℕ
  block k = bucket_block old c k

  -- of bucket k
  abbrev pub put_act : ℕ → Act
  put_act k = patch_act (block k) (one_patch (bucket_start k + at) bytes) behind

  abbrev pub after : ℕ → ℕ → List ℕ
  after k = written (put_act k) old

  abbrev Fits : ℕ → Type 0
  Fits k = at + length bytes ≤ length (bucket_of old c k)

  pub record IsPut (k : ℕ) : Type 0 where
    pub some : block k ≢ 0
    pub part : IsPartOf old top n (block k)
    pub changed : IsChangedAt (block k) old (after k)
    pub keeps : SamePointers node inode type old (after k)
    pub fields : fields_of (after k c) ≡ fields_of (old c)
    pub bucket : bucket_of (after k) c k ≡ put (bucket_of old c k) at bytes
    pub others : (j : ℕ) → j ≤ leaf_count → j ≢ k → bucket_of (after k) c j ≡ bucket_of old c j
    pub is_block : IsWholeBlock (after k (block k))

  -- the leaf of a bucket
  abbrev leaf : ℕ → ℕ
  leaf k = leaf_block old c (k - 1)

  block_is : (k : ℕ) → k ≢ 0 → block k ≡ leaf k
  block_is k some = ap (λ t. if t then c else leaf k) (ne_eqb k 0 some)

  -- one leaf of a bucket stays where its block is not changed
  leaf_stays : (new : ℕ → List ℕ) (k : ℕ) → k ≢ 0 → SamePointers node inode type old new → (leaf k ≢ 0 → new (leaf k) ≡ old (leaf k)) → bucket_of new c k ≡ bucket_of old c k
  leaf_stays new k some keeps stay =
      in_leaf new c k some
      ∙ (ap (λ x. if x == 0 then [] else new x) (leaf_same node inode top type old new v.typed keeps n (k - 1))
      ∙ (elim (cases_eq (leaf k) 0) [
        | inl z ↦ ap (λ x. if x == 0 then [] else new x) z ∙ sym (ap (λ x. if x == 0 then [] else old x) z)
        | inr leaf_some ↦ ap (λ m. if leaf k == 0 then [] else m) (stay leaf_some)
      ] ∙ sym (in_leaf old c k some)))

  in_inode : Fits 0 → IsPut 0
  in_inode fits =
      let m = old c in
      let is_inode = v.typed.inodes n there in
      let was : IsWholeBlock m = v.blocks c (λ z. v.some_types.1 (sym is_inode ∙ z)) in
      let long : length m ≡ 512 = was.0 in
      let rest = length-drop 128 m in
      let few : at + length bytes ≤ 384 = omega arith in
      let new : after 0 c ≡ patched m (one_patch (128 + at) bytes) = written_here (put_act 0) old c refl in
      let stay = content_others m bytes at was.0 few in
      let changed = λ (x : ℕ) (ne : x ≢ c). written_other (put_act 0) old x ne in
      let keeps = keeps_inode node inode type c old (after 0) changed v.types.0 is_inode (ap pointers_of new ∙ stay.1) in
      record {
        some = there;
        part = inl refl;
        changed = changed;
        keeps = keeps;
        fields = ap fields_of new ∙ stay.0;
        bucket = ap content_of new ∙ content_written m bytes at was.0 few;
        others = λ j few' ne. leaf_stays (after 0) j ne keeps
            (λ leaf_some. changed (leaf j) (leaf_no_inode node inode top type old v.types.0 v.typed v.apart n n (j - 1) number leaf_some));
        is_block = subst IsWholeBlock (sym new) (block_put m bytes (128 + at) was range (omega arith));
      }

  module _ (some_bytes : 0 < length bytes) where
    in_other : (k : ℕ) → k ≢ 0 → k ≤ leaf_count → Fits k → IsPut k
    in_other k some few fits =
        let x : ℕ = leaf k in
        let here = in_leaf old c k some in
        let x_some : x ≢ 0 = λ z.
        let none : length (bucket_of old c k) ≡ 0 = ap length (here ∙ ap (λ y. if y == 0 then [] else old y) z) in absurd (omega arith) in
        let is_data = v.typed.leaves n (k - 1) number (omega arith) x_some in
        let was : IsWholeBlock (old x) = v.blocks x (two (type x) is_data) in
        let block_x = block_is k some in
        let bucket_x : bucket_of old c k ≡ old x = here ∙ ap (λ t. if t then [] else old x) (ne_eqb x 0 x_some) in
        let start : bucket_start k ≡ 0 = ap (λ t. if t then 128 else 0) (ne_eqb k 0 some) in
        let place : bucket_start k + at ≡ at = omega arith in
        let new : after k x ≡ put (old x) at bytes = written_here (put_act k) old x (sym block_x) ∙ ap (λ p. put (old x) p bytes) place in
        let changed = λ (y : ℕ) (ne : y ≢ block k). written_other (put_act k) old y ne in
        let is_type : type (block k) ≡ 2 = ap type block_x ∙ is_data in
        let keeps = keeps_data node inode type (block k) old (after k) changed (λ z. v.types.1 (sym is_type ∙ z)) (λ z. v.types.2 (sym is_type ∙ z)) in
        let no_inode = λ (z : c ≡ block k). leaf_no_inode node inode top type old v.types.0 v.typed v.apart n n (k - 1) number x_some (sym block_x ∙ sym z) in
        let fits' : at + length bytes ≤ 512 = let long = was.0 in let same = ap length bucket_x in omega arith in
        record {
          some = λ z. x_some (sym block_x ∙ z);
          part = inr (k - 1, block_x);
          changed = changed;
          keeps = keeps;
          fields = ap fields_of (changed c no_inode);
          bucket =
              in_leaf (after k) c k some
              ∙ (ap (λ y. if y == 0 then [] else after k y) (leaf_same node inode top type old (after k) v.typed keeps n (k - 1))
              ∙ (ap (λ t. if t then [] else after k x) (ne_eqb x 0 x_some) ∙ (new ∙ ap (λ m. put m at bytes) (sym bucket_x))));
          others = λ j few' ne. elim (cases_eq j 0) [
            | inl z ↦ ap (bucket_of (after k) c) z ∙ (ap content_of (changed c no_inode) ∙ sym (ap (bucket_of old c) z))
            | inr j_some ↦ leaf_stays (after k) j j_some keeps (λ leaf_some. changed (leaf j) (λ same.
                let e = leaves_apart node inode top type old v.types.0 v.typed v.apart n n (j - 1) (k - 1) (omega arith) (omega arith) leaf_some (same ∙ block_x) in
                let e' : j - 1 ≡ k - 1 = e.1 in
                ne (omega arith)))
          ];
          is_block = subst (λ y. IsWholeBlock (after k y)) (sym block_x) (subst IsWholeBlock (sym new) (block_put (old x) bytes at was range fits'));
        }
      where
        two : (t : ℕ) → t ≡ 2 → t ≢ 0
        two t is z = absurd (omega (arith, is, z))

    pub is_put : (k : ℕ) → k ≤ leaf_count → Fits k → IsPut k
    is_put k few fits = elim (cases_eq k 0) [
      | inl z ↦ subst (λ j. Fits j → IsPut j) (sym z) in_inode fits
      | inr some ↦ in_other k some few fits
    ]
