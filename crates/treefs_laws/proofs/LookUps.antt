-- What look-ups answer.
use Rattle.std.proofs.Common.{◌≡◌, ℕ, List, Option, None, Some, Result, Ok, Err, refl, sym, ◌∙◌, ap}
use Rattle.std.specs.Prelude.{option_map}
use Rattle.std.specs.Option.{ok_or}
use Rattle.xn_model.specs.Lives.{StoreState}
use Rattle.treefs_model.specs.Files.{Inode, and_then, found, number_in}
use Rattle.treefs_model.specs.Reading.{files_of}
use Rattle.treefs_model.specs.declared.fault.Fault.{Fault}
use Rattle.treefs_model.specs.declared.fault.Fault.TheVariants.{NoEntry}
use Rattle.treefs_lookup.specs.Inodes.{inode_found}
use Rattle.treefs_lookup.specs.Readable.{readable}
use Rattle.treefs_lookup.specs.declared.inodes.Found.{Found}
use Rattle.treefs_edits.specs.Memories.{touched_times}
use Rattle.treefs.specs.Reads.{lookup_of, stat_of}
use Rattle.treefs.specs.declared.volume.Volume.{Volume}
use Rattle.treefs_values.specs.Values.{found_value}
use Rattle.treefs_values.proofs.ForCallers.{inodes_found, numbers_found}
use Rattle.treefs_laws.specs.Kept.{files_in}
use Rattle.treefs_laws.specs.Seen.{seen_files, seen_inode}
use Rattle.treefs_laws.proofs.Seeing.{number_seen}

module _ (state : StoreState) (volume : Volume) where
  abbrev content : ℕ → List ℕ
  content = readable state volume.tree.fs.number

  abbrev top : ℕ
  top = volume.tree.top

  pub looked_up : (d : ℕ) (name : List ℕ) → lookup_of content top d name ≡ number_in (files_in state volume) d name
  looked_up d name = numbers_found content top d name ∙ sym (number_seen volume.memory.touched (files_of content top) d name)

  pub told : (n : ℕ) → and_then (stat_of content top volume.memory n) (λ x. Ok (found_value content top x)) ≡ found (files_in state volume) n
  unfolding seen_files
  told n = by (inode_found content top n) ∙ (ap (λ r. and_then r (λ inode. Ok (seen_inode volume.memory.touched n inode))) (inodes_found content top n) ∙ later)
    where
      by : (r : Result Found Fault) →
          and_then (and_then r (λ found. Ok (record found {
            fields = record found.fields {
              mtime = (touched_times volume.memory.touched n (record { mtime = found.fields.mtime; ctime = found.fields.ctime })).mtime;
              ctime = (touched_times volume.memory.touched n (record { mtime = found.fields.mtime; ctime = found.fields.ctime })).ctime;
            };
          }))) (λ x. Ok (found_value content top x))
          ≡ and_then (and_then r (λ x. Ok (found_value content top x))) (λ inode. Ok (seen_inode volume.memory.touched n inode))
      by (Ok x) = refl
      by (Err fault) = refl

      at : (o : Option Inode) → and_then (ok_or o NoEntry) (λ inode. Ok (seen_inode volume.memory.touched n inode)) ≡ ok_or (option_map (seen_inode volume.memory.touched n) o) NoEntry
      at None = refl
      at (Some inode) = refl

      later : and_then (found (files_of content top) n) (λ inode. Ok (seen_inode volume.memory.touched n inode)) ≡ found (files_in state volume) n
      later = at (files_of content top n)
