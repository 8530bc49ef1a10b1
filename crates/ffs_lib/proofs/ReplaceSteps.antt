-- What stands where a file is replaced by another one: at the beginning, and where the second entry is turned.
use Rattle.std.proofs.Common.{◌≡◌, ◌≢◌, ℕ, ◌+◌, ◌≤◌, false, List, Option, None, Some, Ok}
use Rattle.ffs_lib.proofs.Common.{IsSlot, Slot, StayNamed, StoreState, Types, inode_in, inode_links, is_at, latest, library_layout, named_in}
use Rattle.ffs_model.proofs.ForCallers.{stands_first}
use Rattle.ffs_lib.specs.Orders.{linked_edits, made_of, turned_edits}
use Rattle.ffs_lib.specs.Replacing.{AreDirect, Turned, pair_of, replace_in}
use Rattle.ffs_lib.specs.Steps.{AddsLink, MayLose, Stage}
use Rattle.ffs_lib.proofs.Linked.{linked_own}
use Rattle.ffs_lib.proofs.Replaced.{direct_before, is_moved, slots_apart}
use Rattle.ffs_lib.proofs.Replacing.{CanReplace, can_replace}
use Rattle.ffs_lib.proofs.TurnLaws.{slot_names}

pub record Begins (T : Types) (fs : ℕ) (array : ℕ → Option ℕ) (old : StoreState) (d : ℕ) (name : List ℕ) (other : ℕ) (other_name : List ℕ) (from to : Slot) : Type 0 where
  pub stage : Stage T fs array old
  pub apart : from.inode ≢ to.inode
  pub found : CanReplace (latest old.lives) fs d name other other_name from to
  pub own : Ok found.own ≡ inode_in (latest old.lives) fs from.inode
  pub fewer : inode_links found.own ≢ 65535
  pub places : is_at to from ≡ false
  pub linked : 1 ≤ inode_links found.own
  pub direct : AreDirect (latest old.lives) fs (pair_of from to)
  pub named : StayNamed library_layout old.lives old.lives (pair_of from to) None

pub begins : (T : Types) (fs : ℕ) (array : ℕ → Option ℕ) (old : StoreState) → Stage T fs array old → (d : ℕ) (name : List ℕ) (other : ℕ) (other_name : List ℕ) (from to : Slot) → Ok (from, to) ≡ replace_in (latest old.lives) fs d name other other_name →
    IsSlot old fs from → IsSlot old fs to → from.inode ≢ to.inode → Begins T fs array old d name other other_name from to
begins T fs array old s d name other other_name from to found first second apart =
    let u = latest old.lives in
    let x = can_replace u fs d name other other_name from to found in
    let own = is_moved u fs d name other other_name from to x apart in
    record {
      stage = s;
      apart = apart;
      found = x;
      own = own;
      fewer = x.few apart;
      places = slots_apart old fs from to first second apart;
      linked = linked_own T fs array old s.keeps from first x.own own;
      direct = direct_before u fs d name other other_name from to x apart;
      named = stands_first library_layout old.lives (pair_of from to) (slot_names old fs from first) (slot_names old fs to second);
    }

pub record Turns (T : Types) (fs : ℕ) (array : ℕ → Option ℕ) (old first second : StoreState) (d : ℕ) (name : List ℕ) (from to : Slot) (turned : ℕ) : Type 0 where
  pub adds : AddsLink (latest old.lives) (latest first.lives) fs from.inode
  pub stage : Stage T fs array second
  pub turns : Turned (latest first.lives) (latest second.lives) fs to from.inode
  pub may : MayLose second fs to.inode turned
  pub named : StayNamed library_layout old.lives second.lives (pair_of from to) (Some turned)
  pub again : Ok from ≡ named_in (latest second.lives) fs d name
  pub one : made_of T fs (linked_edits (latest old.lives) fs from.inode) old ≡ Ok first
  pub two : made_of T fs (turned_edits to from.inode old.next) first ≡ Ok second
  pub number : turned ≡ old.next + 1
