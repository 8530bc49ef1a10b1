-- An inode without links that is found, and that the files have.
use Rattle.std.proofs.Common.{◌≡◌, ◌≢◌, ℕ, Bool, true, false, List, None, Some, Option, Result, Ok, Err, refl, sym, ◌∙◌, ap, if◌then◌else◌}
use Rattle.std.specs.Prelude.{◌==◌}
use Rattle.std.specs.Option.{ok_or}
use Rattle.std.proofs.lemmas.Bool.{eq-eqb, eqb-true}
use Rattle.treefs_model.specs.Files.{Inode, and_then}
use Rattle.treefs_model.specs.Reading.{files_of}
use Rattle.treefs_model.specs.declared.fault.Fault.{Fault}
use Rattle.treefs_model.specs.declared.fault.Fault.TheVariants.{NoEntry}
use Rattle.treefs_lookup.specs.Inodes.{inode_found}
use Rattle.treefs_lookup.specs.declared.inodes.Found.{Found}
use Rattle.treefs.specs.Reaping.{orphan_block, orphan_in}
use Rattle.treefs_values.specs.Values.{found_value}
use Rattle.treefs_values.specs.Ways.{block_numbered}
use Rattle.treefs_values.proofs.ForCallers.{IsFound, found_inode, inodes_found}
use Rattle.treefs_laws.proofs.Planned.{same_done, then_ok}

module _ (content : ℕ → List ℕ) (top n : ℕ) where
  pub record IsOrphanFound : Type 0 where
    pub found : Found
    pub is : IsFound content top n found
    pub block : orphan_block content top n ≡ block_numbered content top n
    -- as the files say it
    pub inode : Inode
    pub there : files_of content top n ≡ Some inode
    pub no_links : inode.links ≡ 0

  some_of : (o : Option Inode) (inode : Inode) → ok_or o NoEntry ≡ Ok inode → o ≡ Some inode
  some_of None inode e = absurd (cc e)
  some_of (Some x) inode e = ap Some (same_done x inode e)

  pub orphan_is : orphan_block content top n ≢ 0 → IsOrphanFound
  orphan_is some = by (inode_found content top n) refl some
    where
      linked : (x : Found) → inode_found content top n ≡ Ok x → (t : Bool) → (x.fields.links == 0) ≡ t → (if t then x.block else 0) ≢ 0 → IsOrphanFound
      linked x is false e some = absurd (some refl)
      linked x is true e some =
          let f = found_inode content top n x is in
          let value : Inode = found_value content top x in
          record {
            found = x;
            is = f;
            block = ap orphan_in is ∙ (ap (λ t. if t then x.block else 0) e ∙ f.block);
            inode = value;
            there = some_of (files_of content top n) value (sym (inodes_found content top n) ∙ ap (λ r. and_then r (λ x. Ok (found_value content top x))) is);
            no_links = eqb-true x.fields.links 0 e;
          }

      by : (r : Result Found Fault) → inode_found content top n ≡ r → orphan_in r ≢ 0 → IsOrphanFound
      by (Ok x) is some = linked x is (x.fields.links == 0) refl some
      by (Err fault) is some = absurd (some refl)

  -- what the files say to have no links is found so
  pub orphan_here : (inode : Inode) → files_of content top n ≡ Some inode → inode.links ≡ 0 → orphan_block content top n ≢ 0
  orphan_here inode there unlinked =
      let x = then_ok (inode_found content top n) (λ x. Ok (found_value content top x)) inode (inodes_found content top n ∙ ap (λ o. ok_or o NoEntry) there) in
      let f = found_inode content top n x.0 x.1 in
      let links : x.0.fields.links ≡ 0 = ap (λ (i : Inode). i.links) (same_done (found_value content top x.0) inode x.2) ∙ unlinked in
      let is : orphan_block content top n ≡ x.0.block = ap orphan_in x.1 ∙ ap (λ t. if t then x.0.block else 0) (eq-eqb x.0.fields.links 0 links) in
      λ z. f.there (sym f.block ∙ (sym is ∙ z))
