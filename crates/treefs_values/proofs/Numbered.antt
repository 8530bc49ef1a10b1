-- Records of a directory: the number of one is set, one is made.
use Rattle.std.proofs.Common.{◌≡◌, ◌≢◌, ℕ, zero, suc, ◌+◌, ◌-◌, ◌/◌, ◌<◌, ◌≤◌, ◌^◌, List, [], ◌∷◌, ◌++◌, length, Option, Some, refl, sym, ◌∙◌, ap, inl, inr, arith, mod-lt, ne_eqb, subst, if◌then◌else◌}
use Rattle.std.specs.Prelude.{All, Contains, IsTrue, bytes_eq, ◌==◌}
use Rattle.std.specs.Int.{byte_at, bytes_low_first, w32, to_le_bytes}
use Rattle.std.proofs.lemmas.Bool.{cases_eq}
use Rattle.std.proofs.lemmas.List.Elements.{All-cons, All-drop, All-nil}
use Rattle.treefs_format.specs.Buckets.{is_whole}
use Rattle.treefs_format.specs.Candidates.{candidates, name_hash}
use Rattle.treefs_format.specs.Fields.{fields_of}
use Rattle.treefs_format.specs.Inodes.{kind_of}
use Rattle.treefs_format.specs.Paths.{leaf_count}
use Rattle.treefs_format.specs.Records.{Entry, Record, entries_of, records_of, total_length}
use Rattle.treefs_format.specs.declared.kind.Kind.TheVariants as kind
use Rattle.treefs_format.proofs.Made.{Renumbered, renumbered_entries, split_at}
use Rattle.treefs_format.proofs.ForCallers.{ends_within, renumbered_whole}
use Rattle.treefs_model.specs.Acts.{number_act}
use Rattle.treefs_model.specs.Files.{with_name}
use Rattle.treefs_model.specs.Reading.{bucket_of, files_of, key_in, leaf_block, number_of}
use Rattle.treefs_model.specs.Trees.{has_name}
use Rattle.treefs_lookup.specs.Buckets.{bucket_block, bucket_start}
use Rattle.treefs_edits.specs.Written.{written}
use Rattle.treefs_values.specs.Names.{bucket_entries}
use Rattle.treefs_values.specs.Values.{led_to}
use Rattle.treefs_values.specs.Volumes.{IsDirectory, IsVolume}
use Rattle.treefs_values.specs.Ways.{block_numbered}
use Rattle.treefs_values.proofs.Alike.{in_leaf}
use Rattle.treefs_values.proofs.Elsewhere.{other_alike}
use Rattle.treefs_values.proofs.Ways.{numbered_same}
use Rattle.treefs_values.proofs.Entries.{same_bytes}
use Rattle.treefs_values.proofs.Kept.{still_volume}
use Rattle.treefs_values.proofs.Named.{candidates_few, files_named, named_as}
use Rattle.treefs_values.proofs.Numbers.{among_numbers, has_same, names_set, number_set, own_there}
use Rattle.treefs_values.proofs.Putting.{IsPut, is_put}

pub total_append : (a b : List Entry) → total_length (a ++ b) ≡ total_length a + total_length b
total_append [] b = omega arith
total_append (e ∷ a) b = let rest = total_append a b in omega arith

-- four bytes of a number
byte_small : (i n : ℕ) → byte_at i n < 256
byte_small zero n = omega arith
byte_small (suc i) n = mod-lt (n / 256 ^ suc i) (omega arith)

pub bytes_small : (i k n : ℕ) → All (λ b. b < 256) (bytes_low_first i k n)
bytes_small i zero n = All-nil (λ b. b < 256)
bytes_small i (suc k) n = All-cons (λ b. b < 256) (byte_at i n) (bytes_low_first (suc i) k n) (byte_small i n) (bytes_small (suc i) k n)

pub four_bytes : (n : ℕ) → (length (to_le_bytes w32 n) ≡ 4) × All (λ b. b < 256) (to_le_bytes w32 n)
four_bytes n = (refl, bytes_small 0 4 n)

module _ (node inode top : ℕ) (type : ℕ → ℕ) (old : ℕ → List ℕ) (v : IsVolume node inode type old top)
    (n : ℕ) (number : n ≢ 0) (there : block_numbered old top n ≢ 0) (k : ℕ) (few : k ≤ leaf_count) where
  abbrev c : ℕ
  c = block_numbered old top n

  abbrev key : List ℕ
  key = key_in old top

  -- buckets are bytes
  pub bucket_bytes : All (λ b. b < 256) (bucket_of old c k)
  bucket_bytes = elim (cases_eq k 0) [
    | inl z ↦ subst (λ j. All (λ b. b < 256) (bucket_of old c j)) (sym z)
        (All-drop (λ b. b < 256) 128 (old c) (v.blocks c (λ y. v.some_types.1 (sym (v.typed.inodes n there) ∙ y))).1)
    | inr some ↦ subst (All (λ b. b < 256)) (sym (in_leaf old c k some)) (of_leaf (leaf_block old c (k - 1)) refl)
  ]
    where
      two : (t : ℕ) → t ≡ 2 → t ≢ 0
      two t is z = absurd (omega (arith, is, z))

      of_leaf : (x : ℕ) → leaf_block old c (k - 1) ≡ x → All (λ b. b < 256) (if x == 0 then [] else old x)
      of_leaf x is = elim (cases_eq x 0) [
        | inl z ↦ subst (λ y. All (λ b. b < 256) (if y == 0 then [] else old y)) (sym z) (All-nil (λ b. b < 256))
        | inr some ↦
            let is_data : type x ≡ 2 = ap type (sym is) ∙ v.typed.leaves n (k - 1) number (omega arith) (λ z. some (sym is ∙ z)) in
            subst (λ t. All (λ b. b < 256) (if t then [] else old x)) (sym (ne_eqb x 0 some)) (v.blocks x (two (type x) is_data)).1
      ]

  -- The number of a record is set
  module _ (r : Record) (has : Contains (records_of (bucket_of old c k)) r) (now : ℕ) (short : now < 2 ^ 32) (behind : Option ℕ) where
    abbrev bytes : List ℕ
    bytes = to_le_bytes w32 now

    abbrev new : ℕ → List ℕ
    new = written (number_act (bucket_block old c k) (bucket_start k + r.offset) now behind) old

    pub fits : r.offset + length bytes ≤ length (bucket_of old c k)
    fits =
        let s = split_at (entries_of (bucket_of old c k)) 0 r has in
        let at = s.there in
        let total : total_length (s.before ++ r.entry ∷ s.behind) ≤ length (bucket_of old c k) = subst (λ es. total_length es ≤ length (bucket_of old c k)) s.all (ends_within (bucket_of old c k)) in
        let sum = total_append s.before (r.entry ∷ s.behind) in
        let four = (four_bytes now).0 in
        omega arith

    pub put_in : IsPut node inode top type old v n number there bytes (four_bytes now).1 r.offset behind k
    put_in = is_put node inode top type old v n number there bytes (four_bytes now).1 r.offset behind (let four = (four_bytes now).0 in omega arith) k few fits

    pub entries_set : Renumbered (bucket_of old c k) r now
    entries_set = renumbered_entries (bucket_of old c k) r now bucket_bytes has short

    pub old_is : bucket_entries old c k ≡ entries_set.before ++ r.entry ∷ entries_set.behind
    old_is = entries_set.old

    pub new_is : bucket_entries new c k ≡ entries_set.before ++ record { number = now; name = r.entry.name } ∷ entries_set.behind
    new_is = ap entries_of put_in.bucket ∙ entries_set.new

    pub others : (j : ℕ) → j ≤ leaf_count → j ≢ k → bucket_entries new c j ≡ bucket_entries old c j
    others j few' ne = ap entries_of (put_in.others j few' ne)

    module _ (directory : kind_of (fields_of (old c)).mode ≡ Some kind.Directory) where
      was : IsDirectory old key c
      was = v.directories n number there directory

      pub has_same_name : (j : ℕ) (name : List ℕ) → j ≤ leaf_count → has_name (bucket_entries new c j) name ≡ has_name (bucket_entries old c j) name
      has_same_name = has_same old new c k few was.names entries_set.before entries_set.behind r.entry.name r.entry.number now old_is new_is others

      directory_set : IsDirectory new key c
      directory_set = record {
        names = names_set old new c k few was.names entries_set.before entries_set.behind r.entry.name r.entry.number now old_is new_is others;
        placed = λ j name few' there'. was.placed j name few' (sym (has_same_name j name few') ∙ there');
        valid = λ j name few' there'. was.valid j name few' (sym (has_same_name j name few') ∙ there');
        whole = λ j few'. elim (cases_eq j k) [
          | inl same ↦ subst (λ i. IsTrue (is_whole (bucket_of new c i))) (sym same)
              (subst (λ m. IsTrue (is_whole m)) (sym put_in.bucket) (renumbered_whole (bucket_of old c k) r now bucket_bytes has short (was.whole k few)))
          | inr ne ↦ subst (λ m. IsTrue (is_whole m)) (sym (put_in.others j few' ne)) (was.whole j few')
        ];
      }

      pub volume_set : IsVolume node inode type new top
      volume_set = still_volume node inode top type old new v n (bucket_block old c k) number put_in.some put_in.part put_in.changed put_in.keeps put_in.is_block
          (λ directory'. directory_set)

      here : IsTrue (has_name (bucket_entries old c k) r.entry.name)
      here = own_there old new c k few was.names entries_set.before entries_set.behind r.entry.name r.entry.number now old_is new_is others

      numbers_are : (x : List ℕ) → number_of new key c x ≡ named_as (number_of old key c) r.entry.name (led_to now) x
      numbers_are x =
          let ks = candidates (name_hash key x) in
          among_numbers new c x ks
          ∙ (number_set old new c k few was.names entries_set.before entries_set.behind r.entry.name r.entry.number now old_is new_is others x ks
          (candidates_few (name_hash key x))
          (λ same. subst (λ y. Contains (candidates (name_hash key y)) k) (sym (same_bytes x r.entry.name same)) (was.placed k r.entry.name few here))
          ∙ ap (λ o. if bytes_eq x r.entry.name then led_to now else o) (sym (among_numbers old c x ks)))

      pub files_set : files_of new top ≡ with_name (files_of old top) n r.entry.name (led_to now)
      files_set = files_named node inode top type old new v.types.0 v.typed v.apart put_in.keeps n (bucket_block old c k) number put_in.some put_in.part put_in.changed
          v.root put_in.fields directory r.entry.name (led_to now) numbers_are

    -- the fields of all inodes stay
    pub fields_stay : (m : ℕ) → m ≢ 0 → block_numbered old top m ≢ 0 → fields_of (new (block_numbered old top m)) ≡ fields_of (old (block_numbered old top m))
    fields_stay m some m_there = elim (cases_eq m n) [
      | inl same ↦ ap (λ x. fields_of (new (block_numbered old top x))) same ∙ (put_in.fields ∙ sym (ap (λ x. fields_of (old (block_numbered old top x))) same))
      | inr ne ↦
          let a = other_alike node inode top type old new v.types.0 v.typed v.apart put_in.keeps n (bucket_block old c k) number put_in.some put_in.part put_in.changed m ne some m_there in
          ap fields_of a.own
    ]

    pub numbered_stays : (m : ℕ) → block_numbered new top m ≡ block_numbered old top m
    numbered_stays m = numbered_same node inode top type old new v.typed put_in.keeps m
