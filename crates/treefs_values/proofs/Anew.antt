-- A record is made where a record of its name stands: the number is set, and nothing else.
use mathlib.Core.Path.{fun_ext}
use Rattle.std.proofs.Common.{◌≡◌, ◌≢◌, ℕ, ◌+◌, ◌-◌, ◌<◌, ◌≤◌, ◌^◌, List, [], ◌++◌, length, take, drop, Option, Some, refl, sym, ◌∙◌, ap, inl, inr, arith, subst, append_assoc, if◌then◌else◌}
use Rattle.std.specs.Prelude.{Contains, ◌==◌}
use Rattle.std.specs.Int.{w32, to_le_bytes}
use Rattle.std.proofs.lemmas.Bool.{cases_eq, ne_eqb}
use Rattle.std.proofs.lemmas.List.{drop-drop, length-take-le, take-append-drop}
use Rattle.std.proofs.Math.Seq.{take-append-add}
use Rattle.xn_model.specs.Lists.{put}
use Rattle.xn_model.proofs.ForCallers.{Contains-none}
use Rattle.treefs_format.proofs.ForCallers.{no_length}
use Rattle.treefs_format.specs.Fields.{fields_of}
use Rattle.treefs_format.specs.Inodes.{content_of, kind_of}
use Rattle.treefs_format.specs.Paths.{leaf_count}
use Rattle.treefs_format.specs.Records.{Entry, Record, entry_bytes, placed, records_of}
use Rattle.treefs_format.specs.declared.kind.Kind.TheVariants as kind
use Rattle.treefs_format.proofs.Made.{made_anew}
use Rattle.treefs_model.specs.Acts.{number_act, record_act}
use Rattle.treefs_model.specs.Files.{with_name}
use Rattle.treefs_model.specs.Reading.{bucket_of, files_of, leaf_block}
use Rattle.treefs_lookup.specs.Buckets.{bucket_block, bucket_start}
use Rattle.treefs_edits.specs.Written.{written}
use Rattle.treefs_values.specs.Values.{led_to}
use Rattle.treefs_values.specs.Volumes.{IsVolume}
use Rattle.treefs_values.specs.Ways.{block_numbered}
use Rattle.treefs_values.proofs.Alike.{in_leaf}
use Rattle.treefs_values.proofs.Numbered.{bucket_bytes, files_set, volume_set}
use Rattle.treefs_values.proofs.Putting.{written_here, written_other}

-- bytes put behind a beginning
put_deep : (m bs : List ℕ) (n at : ℕ) → n ≤ length m → put m (n + at) bs ≡ take n m ++ put (drop n m) at bs
put_deep m bs n at within =
    let front : take (n + at) m ≡ take n m ++ take at (drop n m) =
    ap (λ x. take (x + at) m) (sym (length-take-le n m within))
    ∙ (ap (λ l. take (length (take n m) + at) l) (sym (take-append-drop n m)) ∙ take-append-add (take n m) (drop n m) at) in
    let back : drop (n + at + length bs) m ≡ drop (at + length bs) (drop n m) =
    (let same : n + at + length bs ≡ n + (at + length bs) = omega arith in ap (λ k. drop k m) same ∙ sym (drop-drop (at + length bs) n m)) in
    (λ j. (front j ++ bs) ++ back j)
    ∙ (ap (λ l. l ++ drop (at + length bs) (drop n m)) (append_assoc (take n m) (take at (drop n m)) bs)
    ∙ append_assoc (take n m) (take at (drop n m) ++ bs) (drop (at + length bs) (drop n m)))

pub no_entries : (m : List ℕ) (r : Record) → m ≡ [] → Contains (records_of m) r → ⊥
no_entries m r none has = Contains-none r (subst (λ es. Contains (placed 0 es) r) (no_length [] refl) (subst (λ m. Contains (records_of m) r) none has))

module _ (node inode top : ℕ) (type : ℕ → ℕ) (old : ℕ → List ℕ) (v : IsVolume node inode type old top)
    (n : ℕ) (number : n ≢ 0) (there : block_numbered old top n ≢ 0) (k : ℕ) (few : k ≤ leaf_count) (r : Record)
    (has : Contains (records_of (bucket_of old (block_numbered old top n) k)) r) (now : ℕ) (behind : Option ℕ) where
  abbrev c : ℕ
  c = block_numbered old top n

  abbrev entry : Entry
  entry = record { number = now; name = r.entry.name }

  abbrev made_so : ℕ → List ℕ
  made_so = written (record_act (bucket_block old c k) (bucket_start k + r.offset) entry behind) old

  abbrev set_so : ℕ → List ℕ
  set_so = written (number_act (bucket_block old c k) (bucket_start k + r.offset) now behind) old

  same_bucket : put (bucket_of old c k) r.offset (entry_bytes entry) ≡ put (bucket_of old c k) r.offset (to_le_bytes w32 now)
  same_bucket = made_anew (bucket_of old c k) r now (bucket_bytes node inode top type old v n number there k few) has

  -- the block of the bucket
  same_block : put (old (bucket_block old c k)) (bucket_start k + r.offset) (entry_bytes entry)
      ≡ put (old (bucket_block old c k)) (bucket_start k + r.offset) (to_le_bytes w32 now)
  same_block = elim (cases_eq k 0) [
    | inl z ↦
        let long = (v.blocks c (λ y. v.some_types.1 (sym (v.typed.inodes n there) ∙ y))).0 in
        let within : 128 ≤ length (old c) = omega arith in
        let same : put (content_of (old c)) r.offset (entry_bytes entry) ≡ put (content_of (old c)) r.offset (to_le_bytes w32 now) =
        subst (λ j. put (bucket_of old c j) r.offset (entry_bytes entry) ≡ put (bucket_of old c j) r.offset (to_le_bytes w32 now)) z same_bucket in
        subst (λ j. put (old (bucket_block old c j)) (bucket_start j + r.offset) (entry_bytes entry) ≡ put (old (bucket_block old c j)) (bucket_start j + r.offset) (to_le_bytes w32 now)) (sym z)
        (put_deep (old c) (entry_bytes entry) 128 r.offset within
        ∙ (ap (λ l. take 128 (old c) ++ l) same ∙ sym (put_deep (old c) (to_le_bytes w32 now) 128 r.offset within)))
    | inr some ↦
        let start : bucket_start k + r.offset ≡ r.offset = (let z : bucket_start k ≡ 0 = ap (λ t. if t then 128 else 0) (ne_eqb k 0 some) in omega arith) in
        let block : bucket_block old c k ≡ leaf_block old c (k - 1) = ap (λ t. if t then c else leaf_block old c (k - 1)) (ne_eqb k 0 some) in
        let bucket : bucket_of old c k ≡ old (leaf_block old c (k - 1)) = leaf_bytes some in
        (λ j. put (old (block j)) (start j) (entry_bytes entry))
        ∙ (ap (λ m. put m r.offset (entry_bytes entry)) (sym bucket)
        ∙ (same_bucket ∙ ((λ j. put (bucket j) r.offset (to_le_bytes w32 now)) ∙ sym (λ j. put (old (block j)) (start j) (to_le_bytes w32 now)))))
  ]
    where
      leaf_bytes : k ≢ 0 → bucket_of old c k ≡ old (leaf_block old c (k - 1))
      leaf_bytes some = in_leaf old c k some ∙ elim (cases_eq (leaf_block old c (k - 1)) 0) [
        | inl z ↦ absurd (no_entries (bucket_of old c k) r (in_leaf old c k some ∙ ap (λ x. if x == 0 then [] else old x) z) has)
        | inr there' ↦ ap (λ t. if t then [] else old (leaf_block old c (k - 1))) (ne_eqb (leaf_block old c (k - 1)) 0 there')
      ]

  module _ (short : now < 2 ^ 32) (directory : kind_of (fields_of (old c)).mode ≡ Some kind.Directory) where
    pub made_as_set : made_so ≡ set_so
    made_as_set = fun_ext (λ b. elim (cases_eq b (bucket_block old c k)) [
      | inl is ↦
          written_here (record_act (bucket_block old c k) (bucket_start k + r.offset) entry behind) old b is
          ∙ (ap (λ x. put (old x) (bucket_start k + r.offset) (entry_bytes entry)) is ∙ (same_block ∙ (ap (λ x. put (old x) (bucket_start k + r.offset) (to_le_bytes w32 now)) (sym is)
          ∙ sym (written_here (number_act (bucket_block old c k) (bucket_start k + r.offset) now behind) old b is))))
      | inr ne ↦
          written_other (record_act (bucket_block old c k) (bucket_start k + r.offset) entry behind) old b ne
          ∙ sym (written_other (number_act (bucket_block old c k) (bucket_start k + r.offset) now behind) old b ne)
    ])

    pub volume_anew : IsVolume node inode type made_so top
    volume_anew = subst (λ m. IsVolume node inode type m top) (sym made_as_set) (volume_set node inode top type old v n number there k few r has now short behind directory)

    pub files_anew : files_of made_so top ≡ with_name (files_of old top) n r.entry.name (led_to now)
    files_anew = ap (λ m. files_of m top) made_as_set ∙ files_set node inode top type old v n number there k few r has now short behind directory
