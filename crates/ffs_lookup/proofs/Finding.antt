-- Where inodes and entries stand, from what was read.
use Rattle.std.proofs.Common.{◌≡◌, ℕ, ◌+◌, ◌-◌, ◌*◌, ◌/◌, ◌<◌, ◌≢◌, List, length, ap, sym, ◌∙◌, arith, subst, Contains, replicate, true, if◌then◌else◌, lt-ltb}
use Rattle.std.proofs.lemmas.Slice.Eq.{bytes_eq-Decides}
use Rattle.xn_model.specs.Lives.{StoreState}
use Rattle.xn_model.specs.Root.{word_at}
use Rattle.xn_model.proofs.ForCallers.{blocks_of_has}
use Rattle.ffs_model.specs.Cuts.{latest}
use Rattle.ffs_model.specs.Names.{IsRoot, IsInodes}
use Rattle.ffs_model.specs.Library.{library_layout, half_at, inode_at, inode_mode, inode_blocks, pointed, pointer_word}
use Rattle.ffs_model.proofs.ForCallers.{blocks_read, mode_read, pointed_from}
use Rattle.ffs_lookup.specs.declared.places.Found.{Found}
use Rattle.ffs_lookup.specs.Newest.{is_free_inode}
use Rattle.ffs_lookup.specs.Places.{IsFound, IsDirectory, IsFree, IsGap, IsSlot}

-- how the layout reads within range
pub entry_is : (m : List ℕ) (x : ℕ) → x < 16 → library_layout.entry m x ≡ half_at m (32 * x)
entry_is m x few = ap (λ t. if t then half_at m (32 * x) else 0) (lt-ltb x 16 few)

pub pointer_is : (m : List ℕ) (j : ℕ) → j < 16 → library_layout.pointer m j ≡ pointer_word m j
pointer_is m j few = ap (λ t. if t then pointer_word m j else 0) (lt-ltb j 16 few)

-- a pointer of an inode is one of its blocks
pub direct_has : (bytes : List ℕ) (i b : ℕ) → i < 12 → word_at bytes (8 + 4 * i) ≡ b → b ≢ 0 → Contains (inode_blocks bytes) b
direct_has bytes i b few e ne =
    let word = λ (k : ℕ). word_at bytes (8 + 4 * k) in
    blocks_of_has (pointed word 12 2) (b, 2) (pointed_from word 2 12 i b few e ne)

module _ (state : StoreState) (fs n : ℕ) (found : Found) (is : IsFound state fs n found) where
  pub found_has : (i b : ℕ) → i < 12 → word_at found.inode (8 + 4 * i) ≡ b → b ≢ 0 → Contains (library_layout.direct (latest state.lives found.block) found.place) b
  found_has i b few e ne =
      let m = latest state.lives found.block in
      subst (λ xs. Contains xs b) (sym (blocks_read m found.place is.stands.few)) (subst (λ bytes. Contains (inode_blocks bytes) b) is.bytes (direct_has found.inode i b few e ne))

  pub found_mode : library_layout.mode (latest state.lives found.block) found.place ≡ inode_mode found.inode
  found_mode = mode_read (latest state.lives found.block) found.place is.stands.few ∙ ap inode_mode (sym is.bytes)

module _ (state : StoreState) (fs n : ℕ) (found : Found) (dir : IsDirectory state fs n found) (i b : ℕ) (few : i < 12) (e : word_at found.inode (8 + 4 * i) ≡ b) (ne : b ≢ 0) (bytes : List ℕ) (are : latest state.lives b ≡ bytes) (whole : length bytes ≡ 512) where
  pub gap_is : (place : ℕ) → place < 16 → half_at bytes (32 * place) ≡ 0 → IsGap state found b place
  gap_is place low empty = record { has = found_has state fs n found dir.is i b few e ne; few = low; empty = ap (λ m. half_at m (32 * place)) are ∙ empty; long = ap length are ∙ whole }

  pub slot_is : (place inode : ℕ) → place < 16 → half_at bytes (32 * place) ≢ 0 → inode ≡ half_at bytes (32 * place) → IsSlot state fs (record { block = b; place = place; inode = inode })
  slot_is place inode low some is = record {
    some = λ z. some (sym is ∙ z);
    names = record {
      index = (library_layout.home n).0;
      block = found.block;
      place = found.place;
      inodes = dir.is.stands.inodes;
      directory = found_mode state fs n found dir.is ∙ dir.directory;
      has = found_has state fs n found dir.is i b few e ne;
      names = entry_is (latest state.lives b) place low ∙ (ap (λ m. half_at m (32 * place)) are ∙ sym is);
    };
    few = low;
    long = ap length are ∙ whole;
  }

-- a free inode has mode 0
pub free_mode : (m : List ℕ) → m ≡ replicate 64 0 → inode_mode m ≡ 0
unfolding half_at
free_mode m e = ap inode_mode e

-- a free inode
pub free_is : (state : StoreState) (fs root index place block number : ℕ) (top bytes : List ℕ) → IsRoot (latest state.lives) fs root → latest state.lives root ≡ top → index < 16 → pointer_word top index ≡ block → block ≢ 0 →
    latest state.lives block ≡ bytes → length bytes ≡ 512 → place < 8 → is_free_inode (inode_at bytes place) ≡ true → number ≡ 8 * index + place + 1 →
    IsFree state fs (record { number = number; block = block; place = place })
free_is state fs root index place block number top bytes is_root are few points there is whole low free numbered =
    let home : (number - 1) / 8 ≡ index = omega arith in
    record {
      stands = record {
        some = λ z. absurd (omega (arith, z));
        inodes = subst (λ i. IsInodes library_layout (latest state.lives) fs i block) (sym home)
            (record { root = root; is_root = is_root; points = pointer_is (latest state.lives root) index few ∙ (ap (λ m. pointer_word m index) are ∙ points); there = there });
        at = omega arith;
        few = low;
        long = ap length is ∙ whole;
      };
      bare = ap (λ m. inode_at m place) is ∙ (bytes_eq-Decides (inode_at bytes place) (replicate 64 0)).0 free;
      low = omega arith;
    }
