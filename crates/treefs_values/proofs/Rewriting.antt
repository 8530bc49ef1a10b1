-- A bucket of a directory is written anew, without its dead records.
use mathlib.Core.Path.{fun_ext}
use Rattle.std.proofs.Common.{◌≡◌, ◌≢◌, ℕ, ◌+◌, ◌<◌, ◌≤◌, Bool, true, false, cond, not, ◌&&◌, ◌||◌, List, [], ◌∷◌, ◌++◌, length, None, Some, refl, sym, ◌∙◌, ap, inl, inr, arith, subst, if◌then◌else◌}
use Rattle.std.specs.Prelude.{All, Contains, IsTrue, bytes_eq, filter}
use Rattle.std.proofs.lemmas.Bool.{and_from, and_parts, cases_eq, not-true, or_cases, or_left, or_right, true≢false}
use Rattle.std.proofs.lemmas.List.{drop_at, take_at}
use Rattle.std.proofs.lemmas.List.Elements.{All-append, All-drop, All-replicate, All-take}
use Rattle.xn_model.proofs.ForCallers.{Contains-head, Contains-tail}
use Rattle.treefs_format.specs.Buckets.{is_whole, live_entries, rewritten}
use Rattle.treefs_format.specs.Candidates.{candidates, name_hash}
use Rattle.treefs_format.specs.Fields.{fields_of}
use Rattle.treefs_format.specs.Inodes.{kind_of}
use Rattle.treefs_format.specs.Paths.{leaf_count}
use Rattle.treefs_format.specs.Records.{Entry, end_of, entries_of, entry_bytes, is_live, joined}
use Rattle.treefs_format.specs.declared.kind.Kind.TheVariants as kind
use Rattle.treefs_format.proofs.Made.{bucket_of as bucket_parts, length-rewritten, rewritten_read, rewritten_whole}
use Rattle.treefs_format.proofs.Parsed.{IsByte}
use Rattle.treefs_format.proofs.ForCallers.{ends_within}
use Rattle.treefs_model.specs.Acts.{Act, one_patch, patch_act}
use Rattle.treefs_model.specs.Files.{Directory}
use Rattle.treefs_model.specs.Reading.{bucket_of, files_of, inode_with, key_in, number_of}
use Rattle.treefs_model.specs.Trees.{has_name, names_once}
use Rattle.treefs_lookup.specs.Buckets.{bucket_block, bucket_start}
use Rattle.treefs_edits.specs.Kinds.{rewritten_act}
use Rattle.treefs_edits.specs.Written.{written}
use Rattle.treefs_values.specs.Names.{HasNamesOnce, bucket_entries, first_number, first_number_in}
use Rattle.treefs_values.specs.Volumes.{IsDirectory, IsVolume}
use Rattle.treefs_values.specs.Ways.{block_numbered}
use Rattle.treefs_values.proofs.Elsewhere.{others_stay, own_read, own_was}
use Rattle.treefs_values.proofs.Kept.{still_volume}
use Rattle.treefs_values.proofs.Named.{candidates_few, directory_read}
use Rattle.treefs_values.proofs.Numbered.{bucket_bytes}
use Rattle.treefs_values.proofs.Numbers.{among_numbers}
use Rattle.treefs_values.proofs.Putting.{IsPut, is_put}
use Rattle.std.specs.Option.{option_or}

-- Names of live entries

module _ (name : List ℕ) where
  pub live_first : (es : List Entry) → first_number (filter (λ e. is_live e) es) name ≡ first_number es name
  live_first [] = refl
  live_first (e ∷ es) = by (is_live e) refl (live_first es)
    where
      live : List Entry
      live = filter (λ e. is_live e) es

      by : (b : Bool) → is_live e ≡ b → first_number (filter (λ e. is_live e) es) name ≡ first_number es name →
          first_number (cond (is_live e) (e ∷ filter (λ e. is_live e) es) (filter (λ e. is_live e) es)) name ≡ (if is_live e && bytes_eq e.name name then Some e.number else first_number es name)
      by true h rest =
          ap (λ b. first_number (cond b (e ∷ filter (λ e. is_live e) es) (filter (λ e. is_live e) es)) name) h
          ∙ ap (λ o. if is_live e && bytes_eq e.name name then Some e.number else o) rest
      by false h rest =
          ap (λ b. first_number (cond b (e ∷ filter (λ e. is_live e) es) (filter (λ e. is_live e) es)) name) h
          ∙ (rest ∙ sym (ap (λ b. if b && bytes_eq e.name name then Some e.number else first_number es name) h))

  pub live_has : (es : List Entry) → IsTrue (has_name (filter (λ e. is_live e) es) name) → IsTrue (has_name es name)
  live_has [] has = has
  live_has (e ∷ es) has = by (is_live e) refl (live_has es)
    where
      by : (b : Bool) → is_live e ≡ b → (IsTrue (has_name (filter (λ e. is_live e) es) name) → IsTrue (has_name es name)) → IsTrue (bytes_eq e.name name || has_name es name)
      by true h rest = elim (or_cases (bytes_eq e.name name) (has_name (filter (λ e. is_live e) es) name)
          (sym (ap (λ b. has_name (cond b (e ∷ filter (λ e. is_live e) es) (filter (λ e. is_live e) es)) name) h) ∙ has)) [
            | inl a ↦ or_left (bytes_eq e.name name) (has_name es name) a
            | inr b ↦ or_right (bytes_eq e.name name) (has_name es name) (rest b)
          ]
      by false h rest =
          or_right (bytes_eq e.name name) (has_name es name) (rest (sym (ap (λ b. has_name (cond b (e ∷ filter (λ e. is_live e) es) (filter (λ e. is_live e) es)) name) h) ∙ has))

  pub live_lacks : (es : List Entry) → has_name es name ≡ false → has_name (filter (λ e. is_live e) es) name ≡ false
  live_lacks es lacks = by (has_name (filter (λ e. is_live e) es) name) refl
    where
      by : (b : Bool) → has_name (filter (λ e. is_live e) es) name ≡ b → has_name (filter (λ e. is_live e) es) name ≡ false
      by true h = absurd (true≢false (sym (live_has es h) ∙ lacks))
      by false h = h

pub live_once : (es : List Entry) → IsTrue (names_once es) → IsTrue (names_once (filter (λ e. is_live e) es))
live_once [] once = once
live_once (e ∷ es) once = by (is_live e) refl (live_once es)
  where
    by : (b : Bool) → is_live e ≡ b → (IsTrue (names_once es) → IsTrue (names_once (filter (λ e. is_live e) es))) →
        IsTrue (names_once (cond (is_live e) (e ∷ filter (λ e. is_live e) es) (filter (λ e. is_live e) es)))
    by b h rest = by' b h (rest (and_parts (not (has_name es e.name)) (names_once es) once).1)
      where
        by' : (b : Bool) → is_live e ≡ b → IsTrue (names_once (filter (λ e. is_live e) es)) →
            IsTrue (names_once (cond (is_live e) (e ∷ filter (λ e. is_live e) es) (filter (λ e. is_live e) es)))
        by' true h kept =
            ap (λ b. names_once (cond b (e ∷ filter (λ e. is_live e) es) (filter (λ e. is_live e) es))) h
            ∙ and_from (not (has_name (filter (λ e. is_live e) es) e.name)) (names_once (filter (λ e. is_live e) es))
            (ap not (live_lacks e.name es (not-true (has_name es e.name) (and_parts (not (has_name es e.name)) (names_once es) once).0))) kept
        by' false h kept = ap (λ b. names_once (cond b (e ∷ filter (λ e. is_live e) es) (filter (λ e. is_live e) es))) h ∙ kept

-- Bytes of live entries

all_front : (xs ys : List ℕ) → All IsByte (xs ++ ys) → All IsByte xs
all_front xs ys all = subst (All IsByte) (take_at xs ys (length xs) refl) (All-take IsByte (length xs) (xs ++ ys) all)

all_back : (xs ys : List ℕ) → All IsByte (xs ++ ys) → All IsByte ys
all_back xs ys all = subst (All IsByte) (drop_at xs ys (length xs) refl) (All-drop IsByte (length xs) (xs ++ ys) all)

live_bytes : (es : List Entry) → All IsByte (joined es) → All IsByte (joined (filter (λ e. is_live e) es))
live_bytes [] all = all
live_bytes (e ∷ es) all = by (is_live e) refl (live_bytes es (all_back (entry_bytes e) (joined es) all))
  where
    by : (b : Bool) → is_live e ≡ b → All IsByte (joined (filter (λ e. is_live e) es)) → All IsByte (joined (cond (is_live e) (e ∷ filter (λ e. is_live e) es) (filter (λ e. is_live e) es)))
    by true h rest =
        subst (λ b. All IsByte (joined (cond b (e ∷ filter (λ e. is_live e) es) (filter (λ e. is_live e) es)))) (sym h)
        (All-append IsByte (entry_bytes e) (joined (filter (λ e. is_live e) es)) (all_front (entry_bytes e) (joined es) all) rest)
    by false h rest = subst (λ b. All IsByte (joined (cond b (e ∷ filter (λ e. is_live e) es) (filter (λ e. is_live e) es)))) (sym h) rest

module _ (node inode top : ℕ) (type : ℕ → ℕ) (old : ℕ → List ℕ) (v : IsVolume node inode type old top)
    (n : ℕ) (number : n ≢ 0) (there : block_numbered old top n ≢ 0) (k : ℕ) (few : k ≤ leaf_count)
    (directory : kind_of (fields_of (old (block_numbered old top n))).mode ≡ Some kind.Directory)
    (some : 0 < end_of (bucket_of old (block_numbered old top n) k)) where
  abbrev c : ℕ
  c = block_numbered old top n

  abbrev key : List ℕ
  key = key_in old top

  abbrev bytes : List ℕ
  bytes = rewritten (bucket_of old c k)

  abbrev new : ℕ → List ℕ
  new = written (patch_act (bucket_block old c k) (one_patch (bucket_start k + 0) bytes) None) old

  was : IsDirectory old key c
  was = v.directories n number there directory

  range : All (λ b. b < 256) (bucket_of old c k)
  range = bucket_bytes node inode top type old v n number there k few

  long : length bytes ≡ end_of (bucket_of old c k)
  long = length-rewritten (bucket_of old c k)

  pub small : All (λ b. b < 256) bytes
  small =
      let p = bucket_parts (bucket_of old c k) range in
      let live = live_bytes (entries_of (bucket_of old c k))
      (all_front (joined (entries_of (bucket_of old c k))) _ (subst (All IsByte) p.whole range)) in
      All-append IsByte (joined (live_entries (bucket_of old c k))) _ live (All-replicate IsByte _ 0 (omega arith))

  pub put_in : IsPut node inode top type old v n number there bytes small 0 None k
  put_in = is_put node inode top type old v n number there bytes small 0 None (let l = long in omega arith) k few
      (let l = long in let within = ends_within (bucket_of old c k) in omega arith)

  pub new_is : bucket_entries new c k ≡ live_entries (bucket_of old c k)
  new_is = ap entries_of put_in.bucket ∙ rewritten_read (bucket_of old c k) range

  others : (j : ℕ) → j ≤ leaf_count → j ≢ k → bucket_entries new c j ≡ bucket_entries old c j
  others j few' ne = ap entries_of (put_in.others j few' ne)

  -- no bucket has a name more
  pub fewer : (j : ℕ) (name : List ℕ) → j ≤ leaf_count → IsTrue (has_name (bucket_entries new c j) name) → IsTrue (has_name (bucket_entries old c j) name)
  fewer j name few' has = elim (cases_eq j k) [
    | inl same ↦
        let here : IsTrue (has_name (live_entries (bucket_of old c k)) name) =
        ap (λ es. has_name es name) (sym new_is) ∙ (ap (λ i. has_name (bucket_entries new c i) name) (sym same) ∙ has) in
        ap (λ i. has_name (bucket_entries old c i) name) same ∙ live_has name (bucket_entries old c k) here
    | inr ne ↦ ap (λ es. has_name es name) (sym (others j few' ne)) ∙ has
  ]

  names : HasNamesOnce new c
  names = record {
    once = λ j few'. elim (cases_eq j k) [
      | inl same ↦
          ap (λ i. names_once (bucket_entries new c i)) same ∙ (ap names_once new_is ∙ live_once (bucket_entries old c k) (was.names.once k few))
      | inr ne ↦ ap names_once (others j few' ne) ∙ was.names.once j few'
    ];
    apart = λ i j name few' few'' one other. was.names.apart i j name few' few'' (fewer i name few' one) (fewer j name few'' other);
  }

  directory_rewritten : IsDirectory new key c
  directory_rewritten = record {
    names = names;
    placed = λ j name few' has. was.placed j name few' (fewer j name few' has);
    valid = λ j name few' has. was.valid j name few' (fewer j name few' has);
    whole = λ j few'. elim (cases_eq j k) [
      | inl same ↦ subst (λ i. IsTrue (is_whole (bucket_of new c i))) (sym same)
          (subst (λ m. IsTrue (is_whole m)) (sym put_in.bucket) (rewritten_whole (bucket_of old c k) range (was.whole k few)))
      | inr ne ↦ subst (λ m. IsTrue (is_whole m)) (sym (put_in.others j few' ne)) (was.whole j few')
    ];
  }

  pub volume_rewritten : IsVolume node inode type new top
  volume_rewritten = still_volume node inode top type old new v n (bucket_block old c k) number put_in.some put_in.part put_in.changed put_in.keeps put_in.is_block
      (λ directory'. directory_rewritten)

  -- the same numbers
  in_buckets : (name : List ℕ) (buckets : List ℕ) → ((j : ℕ) → Contains buckets j → j ≤ leaf_count) → first_number_in new c name buckets ≡ first_number_in old c name buckets
  in_buckets name [] within = refl
  in_buckets name (j ∷ buckets) within =
      (λ i. option_or (first j (within j (Contains-head j buckets)) i) (in_buckets name buckets (λ x has. within x (Contains-tail j buckets x has)) i))
    where
      first : (j : ℕ) → j ≤ leaf_count → first_number (bucket_entries new c j) name ≡ first_number (bucket_entries old c j) name
      first j few' = elim (cases_eq j k) [
        | inl same ↦
            ap (λ i. first_number (bucket_entries new c i) name) same
            ∙ (ap (λ es. first_number es name) new_is ∙ (live_first name (bucket_entries old c k) ∙ sym (ap (λ i. first_number (bucket_entries old c i) name) same)))
        | inr ne ↦ ap (λ es. first_number es name) (others j few' ne)
      ]

  numbers_same : number_of new key c ≡ number_of old key c
  numbers_same = fun_ext (λ name.
      let ks = candidates (name_hash key name) in
      among_numbers new c name ks ∙ (in_buckets name ks (candidates_few (name_hash key name)) ∙ sym (among_numbers old c name ks)))

  own : files_of new top n ≡ files_of old top n
  own =
      own_read node inode top type old new v.types.0 v.typed v.apart put_in.keeps n (bucket_block old c k) number put_in.some put_in.part put_in.changed v.root
      ∙ (directory_read new key c (fields_of (old c)) put_in.fields directory
      ∙ (ap (λ g. Some (inode_with (fields_of (old c)) (Directory (fields_of (old c)).parent g))) numbers_same
      ∙ sym (own_was node inode top type old new v.types.0 v.typed v.apart put_in.keeps n (bucket_block old c k) number put_in.some put_in.part put_in.changed
      ∙ directory_read old key c (fields_of (old c)) refl directory)))

  pub files_rewritten : files_of new top ≡ files_of old top
  files_rewritten = fun_ext (λ m. elim (cases_eq m n) [
    | inl same ↦ ap (files_of new top) same ∙ (own ∙ sym (ap (files_of old top) same))
    | inr ne ↦
        others_stay node inode top type old new v.types.0 v.typed v.apart put_in.keeps n (bucket_block old c k) number put_in.some put_in.part put_in.changed v.root m ne
  ])

  -- as the act is made
  pub act_is : patch_act (bucket_block old c k) (one_patch (bucket_start k + 0) bytes) None ≡ rewritten_act (bucket_block old c k) (bucket_start k) (bucket_of old c k)
  act_is = let z : bucket_start k + 0 ≡ bucket_start k = omega arith in ap (λ o. patch_act (bucket_block old c k) (one_patch o bytes) None) z

  abbrev Said : Act → Type 0
  Said act = IsVolume node inode type (written act old) top × (files_of (written act old) top ≡ files_of old top)
      × (bucket_entries (written act old) c k ≡ live_entries (bucket_of old c k))

  pub rewritten_so : Said (rewritten_act (bucket_block old c k) (bucket_start k) (bucket_of old c k))
  rewritten_so = subst Said act_is (volume_rewritten, files_rewritten, new_is)
