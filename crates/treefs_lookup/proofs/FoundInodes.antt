-- Inodes in their blocks.
use Rattle.std.proofs.Common.{◌≡◌, ℕ, List, [], ◌∷◌, Bool, true, false, Option, Result, Err, refl, sym, ◌∙◌, ap, ne_eqb, length, ◌<◌, arith, if◌then◌else◌}
use Rattle.std.specs.Prelude.{◌≢◌, ◌==◌, ◌||◌, nat_lt}
use Rattle.treefs_format.specs.Fields.{fields_of}
use Rattle.treefs_format.specs.Inodes.{kind_of}
use Rattle.treefs_format.specs.Numbers.{number_at}
use Rattle.treefs_format.specs.declared.fields.Fields.{Fields}
use Rattle.treefs_format.specs.declared.kind.Kind.{Kind}
use Rattle.treefs_format.specs.Paths.{leaf_count, steps}
use Rattle.treefs_format.specs.Roots.{leaf_of_inode}
use Rattle.treefs_model.specs.Files.{and_then}
use Rattle.treefs_model.specs.Reading.{block_at, inode_block, leaf_block, pointed}
use Rattle.treefs_model.specs.declared.fault.Fault.{Fault}
use Rattle.treefs_model.specs.declared.fault.Fault.TheVariants.{NoEntry}
use Rattle.treefs_lookup.specs.Inodes.{directory_found, found_block, found_in, found_kind, if_directory, inode_found}
use Rattle.treefs_lookup.specs.declared.inodes.Found.{Found}
use Rattle.treefs_lookup.proofs.Trees.{steps_some}
use Rattle.treefs_lookup.proofs.Walks.{none_pointed}

no_mode : (fields_of []).mode ≡ 0
unfolding number_at
no_mode = refl

pub none_found : (block : ℕ) → found_in block [] ≡ Err NoEntry
none_found block = ap (λ m. found_kind block (fields_of []) (kind_of m)) no_mode

module _ (content : ℕ → List ℕ) (block : ℕ) where
  pub not_there : block ≡ 0 → found_block content block ≡ Err NoEntry
  not_there none = ap (found_block content) none

  pub there : (bytes : List ℕ) → block ≢ 0 → content block ≡ bytes → found_block content block ≡ found_in block bytes
  there bytes some are = ap (λ (t : Bool). if t then Err NoEntry else found_in block (content block)) (ne_eqb block 0 some) ∙ ap (found_in block) are

pub kind_found : (block : ℕ) (bytes : List ℕ) (fields : Fields) (kind : Option Kind) → fields ≡ fields_of bytes → kind ≡ kind_of fields.mode →
    found_in block bytes ≡ found_kind block fields kind
kind_found block bytes fields kind is of = ap (λ f. found_kind block f (kind_of f.mode)) (sym is) ∙ ap (found_kind block fields) (sym of)

-- Where inode 0 may not be read there is no inode

block_none : (content : ℕ → List ℕ) (top : ℕ) → content top ≡ [] → (offsets : List ℕ) → 0 < length offsets → block_at content top offsets ≡ 0
block_none content top none [] some = absurd (omega arith)
block_none content top none (o ∷ []) some = none_pointed content top o none
block_none content top none (o ∷ p ∷ offsets) some = ap (λ b. pointed content b o) (block_none content top none (p ∷ offsets) (omega arith))

no_block : (content : ℕ → List ℕ) (top n : ℕ) → content top ≡ [] → (t : Bool) → (if t then 0 else leaf_block content top (leaf_of_inode n)) ≡ 0
no_block content top n none true = refl
no_block content top n none false = block_none content top none (steps (leaf_of_inode n)) (steps_some (leaf_of_inode n))

no_inodes : (content : ℕ → List ℕ) (top n : ℕ) → content top ≡ [] → inode_found content top n ≡ Err NoEntry
unfolding inode_found
no_inodes content top n none = not_there content (inode_block content top n) (no_block content top n none ((n == 0) || nat_lt leaf_count n))

pub no_directories : (content : ℕ → List ℕ) (top n : ℕ) → content top ≡ [] → directory_found content top n ≡ Err NoEntry
no_directories content top n none = ap (λ (r : Result Found Fault). and_then r (λ found. if_directory found found.kind)) (no_inodes content top n none)
