-- A name of a directory leads elsewhere.
use mathlib.Core.Path.{fun_ext}
use Rattle.std.proofs.Common.{◌≡◌, ◌≢◌, ℕ, zero, suc, ◌+◌, ◌<◌, ◌≤◌, List, get_or, Option, Some, refl, sym, ◌∙◌, ap, arith, if◌then◌else◌}
use Rattle.std.specs.Prelude.{Contains, bytes_eq, option_map}
use Rattle.std.specs.List.{range_with_len}
use Rattle.std.proofs.lemmas.List.Elements.{All-contains, All-map}
use Rattle.std.proofs.lemmas.List.FromFn.{get_or-range_with_len, length-range_with_len}
use Rattle.treefs_format.specs.Candidates.{candidate, candidates, first_bucket}
use Rattle.treefs_format.specs.Fields.{fields_of}
use Rattle.treefs_format.specs.declared.fields.Fields.{Fields}
use Rattle.treefs_format.specs.Inodes.{kind_of}
use Rattle.treefs_format.specs.Paths.{leaf_count}
use Rattle.treefs_format.specs.declared.kind.Kind.TheVariants as kind
use Rattle.treefs_format.proofs.ForCallers.{candidate_below}
use Rattle.treefs_model.specs.Files.{Directory, Names, changed_in, renamed_in, with_name}
use Rattle.treefs_model.specs.Reading.{content_at, files_of, inode_of, inode_with, key_in, number_of}
use Rattle.treefs_values.specs.Parts.{IsChangedAt, IsPartOf}
use Rattle.treefs_values.specs.Ways.{ArePointersApart, IsTyped, SamePointers, block_numbered}
use Rattle.treefs_values.proofs.Elsewhere.{files_changed, own_read, own_was}

-- Candidates are buckets that a directory may have

range_few : (k d : ℕ) → k < 9 → get_or (range_with_len 0 9) k d ≤ 8
range_few k d lt = let e = get_or-range_with_len 0 9 k d lt in omega arith

first_few : (level : ℕ) → level ≤ 9 → first_bucket level ≤ 19173961
first_few zero few = omega arith
first_few (suc zero) few = omega arith
first_few (suc (suc zero)) few = omega arith
first_few (suc (suc (suc zero))) few = omega arith
first_few (suc (suc (suc (suc zero)))) few = omega arith
first_few (suc (suc (suc (suc (suc zero))))) few = omega arith
first_few (suc (suc (suc (suc (suc (suc zero)))))) few = omega arith
first_few (suc (suc (suc (suc (suc (suc (suc zero))))))) few = omega arith
first_few (suc (suc (suc (suc (suc (suc (suc (suc zero)))))))) few = omega arith
first_few (suc (suc (suc (suc (suc (suc (suc (suc (suc zero))))))))) few = omega arith
first_few (suc (suc (suc (suc (suc (suc (suc (suc (suc (suc l)))))))))) few = absurd (omega arith)

at_level : (hash level : ℕ) → level ≤ 8 → candidate hash level ≤ leaf_count
at_level hash level few = let below = candidate_below hash level in let bound = first_few (level + 1) (omega arith) in omega arith

pub candidates_few : (hash k : ℕ) → Contains (candidates hash) k → k ≤ leaf_count
candidates_few hash k has = All-contains (λ j. j ≤ leaf_count) (candidates hash) k
    (All-map (λ j. j ≤ leaf_count) (candidate hash) (range_with_len 0 9)
    (λ i d lt. at_level hash (get_or (range_with_len 0 9) i d) (range_few i d (let long = length-range_with_len 0 9 in omega arith)))) has

-- The value of a directory

abbrev pub named_as : Names → List ℕ → Option ℕ → Names
named_as names name now x = if bytes_eq x name then now else names x

pub directory_read : (content : ℕ → List ℕ) (key : List ℕ) (c : ℕ) (f : Fields) → fields_of (content c) ≡ f → kind_of f.mode ≡ Some kind.Directory →
    inode_of content key c ≡ Some (inode_with f (Directory f.parent (number_of content key c)))
directory_read content key c f is kind_is =
    ap (λ (g : Fields). option_map (λ k. inode_with g (content_at content key c g.parent k)) (kind_of g.mode)) is
    ∙ ap (option_map (λ k. inode_with f (content_at content key c f.parent k))) kind_is

module _ (node inode top : ℕ) (type : ℕ → ℕ) (old new : ℕ → List ℕ) (other : node ≢ inode) (typed : IsTyped node inode type old top)
    (apart : ArePointersApart node inode type old top) (keeps : SamePointers node inode type old new)
    (n b : ℕ) (number : n ≢ 0) (some : b ≢ 0) (part : IsPartOf old top n b) (changed : IsChangedAt b old new) (root : top ≢ 0) where
  abbrev c : ℕ
  c = block_numbered old top n

  module _ (fields_stay : fields_of (new c) ≡ fields_of (old c)) (is_directory : kind_of (fields_of (old c)).mode ≡ Some kind.Directory)
      (name : List ℕ) (now : Option ℕ) (numbers : (x : List ℕ) → number_of new (key_in old top) c x ≡ named_as (number_of old (key_in old top) c) name now x) where
    pub files_named : files_of new top ≡ with_name (files_of old top) n name now
    files_named = files_changed node inode top type old new other typed apart keeps n b number some part changed root (renamed_in name now)
        (own_read node inode top type old new other typed apart keeps n b number some part changed root
        ∙ (directory_read new (key_in old top) c (fields_of (old c)) fields_stay is_directory
        ∙ (ap (λ g. Some (inode_with (fields_of (old c)) (Directory (fields_of (old c)).parent g))) (fun_ext numbers)
        ∙ sym (ap (changed_in (renamed_in name now))
        (own_was node inode top type old new other typed apart keeps n b number some part changed
        ∙ directory_read old (key_in old top) c (fields_of (old c)) refl is_directory)))))
