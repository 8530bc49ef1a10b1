-- A data block to which nothing leads gets other bytes: the volume is one still, and its files are as before.
use Rattle.std.proofs.Common.{◌≡◌, ◌≢◌, ℕ, List, ◌∷◌, refl, sym, ◌∙◌, ap, subst, if◌then◌else◌}
use Rattle.std.specs.Prelude.{IsTrue, ◌==◌}
use Rattle.std.proofs.lemmas.Bool.{eq-eqb, ne_eqb}
use Rattle.xn_model.specs.Root.{word_at}
use Rattle.treefs_model.specs.Reading.{block_at, files_of, pointed}
use Rattle.treefs_model.specs.Trees.{has_pointer}
use Rattle.treefs_values.specs.Begun.{with_block}
use Rattle.treefs_values.specs.Volumes.{IsVolume, IsWholeBlock}
use Rattle.treefs_values.specs.Ways.{IsWay, block_numbered}
use Rattle.treefs_values.proofs.ForCallers.{IsAlike, IsNew, New}
use Rattle.treefs_laws.proofs.BlockAside.{above_same, alike_aside, files_aside, no_pointer, numbered_aside, volume_aside, way_same}

module _ (node inode top : ℕ) (type : ℕ → ℕ) (c : ℕ → List ℕ) (v : IsVolume node inode type c top) (z : New) (new : IsNew node inode type c top z)
    (of_data : z.ty ≡ 2) (bytes : List ℕ) (whole : IsWholeBlock bytes) where
  abbrev pub filled : ℕ → List ℕ
  filled = with_block c z.block bytes

  is_data : type z.block ≡ 2
  is_data = new.typed ∙ of_data

  filled_here : filled z.block ≡ bytes
  filled_here = ap (λ t. if t then bytes else c z.block) (eq-eqb z.block z.block refl)

  kept : (b : ℕ) → b ≢ z.block → (type b ≡ type b) × (filled b ≡ c b)
  kept b ne = (refl, ap (λ t. if t then bytes else c b) (ne_eqb b z.block ne))

  unled : (p o : ℕ) → p ≢ z.block → IsTrue (has_pointer node inode (type p) o) → pointed c p o ≢ z.block
  unled p o ne has = new.unled p o has

  bare : (o : ℕ) → IsTrue (has_pointer node inode (type z.block) o) → ⊥
  bare o has = no_pointer node inode (type z.block) o v.types.1 v.types.2 is_data has

  whole_there : type z.block ≢ 0 → IsWholeBlock (filled z.block)
  whole_there some = subst IsWholeBlock (sym filled_here) whole

  pub filled_way : (m k : ℕ) (os : List ℕ) → IsWay os k → block_at filled (block_numbered c top m) os ≡ block_at c (block_numbered c top m) os
  filled_way = way_same node inode top type type c filled v z.block new.no_root kept unled bare whole_there

  pub filled_above : (m k p : ℕ) (q : List ℕ) → IsWay (p ∷ q) k → block_at filled (block_numbered c top m) q ≡ block_at c (block_numbered c top m) q
  filled_above = above_same node inode top type type c filled v z.block new.no_root kept unled bare whole_there

  pub filled_numbered : (m : ℕ) → block_numbered filled top m ≡ block_numbered c top m
  filled_numbered = numbered_aside node inode top type type c filled v z.block new.no_root kept unled bare whole_there

  pub filled_alike : (m : ℕ) → block_numbered c top m ≢ 0 → IsAlike c filled (block_numbered c top m)
  filled_alike = alike_aside node inode top type type c filled v z.block new.no_root kept unled bare whole_there

  pub filled_files : files_of filled top ≡ files_of c top
  filled_files = files_aside node inode top type type c filled v z.block new.no_root kept unled bare whole_there

  pub filled_volume : IsVolume node inode type filled top
  filled_volume = volume_aside node inode top type type c filled v z.block new.no_root kept unled bare whole_there

  -- it is new still, with those bytes
  pub filled_itself : IsNew node inode type filled top (record { block = z.block; ty = 2; bytes = bytes })
  filled_itself = record {
    there = new.there;
    within = new.within;
    no_root = new.no_root;
    unled = λ p o has same. new.unled p o has (sym (keeps p o has) ∙ same);
    typed = is_data;
    some_type = λ e. absurd (cc e);
    bytes = filled_here;
    bare = λ o has. absurd (no_pointer node inode 2 o v.types.1 v.types.2 refl has);
  }
    where
      keeps : (p o : ℕ) → IsTrue (has_pointer node inode (type p) o) → pointed filled p o ≡ pointed c p o
      keeps p o has = ap (λ m. if p == 0 then 0 else word_at m o) (kept p (λ same. bare o (subst (λ b. IsTrue (has_pointer node inode (type b) o)) same has))).1
