-- What is found of inodes and of names that an edit leaves as they are.
use mathlib.Core.Path.{fun_ext}
use Rattle.std.proofs.Common.{◌≡◌, ◌≢◌, ℕ, ◌-◌, List, Result, Ok, Err, refl, sym, ◌∙◌, ap, subst, if◌then◌else◌}
use Rattle.std.specs.Prelude.{option_map, ◌==◌}
use Rattle.std.specs.Option.{ok_or}
use Rattle.treefs_format.specs.Buckets.{live_record}
use Rattle.treefs_format.specs.Candidates.{candidates, name_hash}
use Rattle.treefs_format.specs.Inodes.{content_of}
use Rattle.treefs_format.specs.Names.{is_name}
use Rattle.treefs_model.specs.Files.{and_then}
use Rattle.treefs_model.specs.Reading.{key_in}
use Rattle.treefs_model.specs.declared.fault.Fault.{Fault}
use Rattle.treefs_model.specs.declared.fault.Fault.TheVariants.{BadName, NoEntry}
use Rattle.treefs_lookup.specs.Buckets.{bucket_start}
use Rattle.treefs_lookup.specs.Inodes.{directory_found, found_block, found_in, if_directory, inode_found}
use Rattle.treefs_lookup.specs.Names.{entry_found, first_some, named_in, slot_in, slot_named, slot_of}
use Rattle.treefs_lookup.specs.declared.inodes.Found.{Found}
use Rattle.treefs_lookup.specs.declared.names.Slot.{Slot}
use Rattle.treefs_values.specs.Ways.{block_numbered}
use Rattle.treefs_values.proofs.Alike.{IsAlike, bucket_same}
use Rattle.treefs_values.proofs.Elsewhere.{inode_numbered}
use Rattle.treefs_values.proofs.FoundEntries.{directory_is}
use Rattle.treefs_values.proofs.Standing.{IsKeptInode}

module _ (old new : ℕ → List ℕ) (top n : ℕ) (some : n ≢ 0) (kept : IsKeptInode old new top n) where
  abbrev c : ℕ
  c = block_numbered old top n

  pub found_still : inode_found new top n ≡ inode_found old top n
  unfolding inode_found
  found_still =
      ap (found_block new) (sym (inode_numbered new top n some) ∙ kept.block)
      ∙ (ap (λ m. if c == 0 then Err NoEntry else found_in c m) kept.alike.own
      ∙ ap (found_block old) (inode_numbered old top n some))

module _ (old new : ℕ → List ℕ) (c : ℕ) (a : IsAlike old new c) (key name : List ℕ) where
  slot_same : (k : ℕ) → slot_in new c name k ≡ slot_in old c name k
  slot_same k = (λ j. option_map (slot_of (if k == 0 then c else a.leaves (k - 1) j) (bucket_start k))
      (live_record (bucket_same old new c a.leaves a.bytes k (ap content_of a.own) j) name))

  named_still : slot_named new key c name ≡ slot_named old key c name
  unfolding slot_named
  named_still = ap (λ f. first_some f (candidates (name_hash key name))) (fun_ext slot_same)

pub entry_still : (old new : ℕ → List ℕ) (top d : ℕ) (name : List ℕ) (slot : Slot) → d ≢ 0 → IsKeptInode old new top d → key_in new top ≡ key_in old top →
    entry_found old top d name ≡ Ok slot → entry_found new top d name ≡ Ok slot
entry_still old new top d name slot some kept key is = by (directory_found old top d) refl
  where
    same : directory_found new top d ≡ directory_found old top d
    same = ap (λ r. and_then r (λ (x : Found). if_directory x x.kind)) (found_still old new top d some kept)

    by : (r : Result Found Fault) → directory_found old top d ≡ r → entry_found new top d name ≡ Ok slot
    by (Err fault) e = absurd (cc (sym (ap (λ r. and_then r (λ (x : Found). named_in old (key_in old top) name x.block)) e) ∙ is))
    by (Ok x) e =
        let block_is = (directory_is old top d x e).0.block in
        let alike = subst (IsAlike old new) (sym block_is) kept.alike in
        ap (λ r. and_then r (λ (x : Found). named_in new (key_in new top) name x.block)) (same ∙ e)
        ∙ (ap (λ k. named_in new k name x.block) key
        ∙ (ap (λ o. if is_name name then ok_or o NoEntry else Err BadName) (named_still old new x.block alike (key_in old top) name)
        ∙ (sym (ap (λ r. and_then r (λ (x : Found). named_in old (key_in old top) name x.block)) e) ∙ is)))
