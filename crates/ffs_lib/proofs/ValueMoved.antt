-- What `rename` leaves is what its function of the files says.
use Rattle.std.proofs.Common.{◌≡◌, ◌≢◌, ℕ, ◌<◌, ◌≤◌, List, Some, None, Ok, refl, sym, ◌∙◌, ap, inl, inr, subst}
use Rattle.ffs_lib.proofs.Common.{AreBlocksOnce, Files, HasBlocksOnce, Slot, blocks_value, cases_eq, direct_in, directory_in, files_of, inode_in, inode_links}
use Rattle.ffs_lib.proofs.Common.{links_of, moved, room, with_entry, without_link}
use Rattle.ffs_lookup.proofs.ForCallers.{EntryAt, IsPlaceOf, same_ok}
use Rattle.ffs_lib.specs.Results.{HasMore, IsAs}
use Rattle.ffs_lib.specs.Steps.{Clearing, NamedAgain, Unnamed}
use Rattle.ffs_lib.specs.Stages.{with_link}
use Rattle.ffs_lib.specs.Values.{Leads}
use Rattle.ffs_lib.proofs.Entering.{directory_from, directory_same}
use Rattle.ffs_lib.proofs.Moving.{directory_to}
use Rattle.ffs_lib.proofs.Renaming.{CanMove}
use Rattle.ffs_lib.proofs.ValueMade.{blocks_more, pointer_kept}
use Rattle.ffs_lib.proofs.ValueSame.{blocks_same}
use Rattle.ffs_lib.proofs.ValueSteps.{adds_value, as_direct, clearing_value, entry_after_link, entry_value, inode_linked, link_and_less, links_of_entry, takes_value}

module _ (u w : ℕ → List ℕ) (fs d : ℕ) (name : List ℕ) (other : ℕ) (new_name : List ℕ) (slot : Slot) (x : CanMove u fs d name other new_name slot) (z : NamedAgain u w fs other new_name slot.inode) (once : AreBlocksOnce w fs) where
  abbrev files : Files
  files = files_of u fs

  abbrev m : ℕ → List ℕ
  m = z.middle

  -- the other directory, after the link was added
  to1 : IsAs u m fs other x.to
  to1 = z.linked.before other x.to (directory_from u fs other x.to x.is_to).0

  to1_is : Ok to1.after ≡ directory_in m fs other
  to1_is = directory_to m fs other to1.after to1.found (to1.mode ∙ (directory_from u fs other x.to x.is_to).1)

  direct_to : (i : ℕ) → i < 12 → direct_in to1.after i ≡ direct_in x.to i
  direct_to i lt = as_direct u m fs other x.to to1 i lt

  blocks_to : blocks_value m to1.after ≡ blocks_value u x.to
  blocks_to = blocks_same u m x.to to1.after direct_to to1.entries to1.size to1.each

  more : HasMore m w fs other to1.after new_name slot.inode
  more = z.entered.more to1.after to1_is

  module _ (entry : EntryAt u x.from name slot) (at : ℕ × ℕ) (room_at : Some at ≡ room (blocks_value u x.to)) where
    room_then : Some at ≡ room (blocks_value m to1.after)
    room_then = room_at ∙ ap room (sym blocks_to)

    once_more : HasBlocksOnce more.after
    once_more = once other more.after more.directory

    entered : files_of w fs ≡ with_entry (files_of m fs) other at (Some (new_name, slot.inode))
    entered = entry_value m w fs other to1.after more.after at (Some (new_name, slot.inode)) to1_is more.directory more.links (blocks_more m w fs other slot.inode new_name to1.after more once_more at room_then) z.entered.others

    -- the first directory then has the pointers that it had
    pub home : (own : List ℕ) × (Ok own ≡ directory_in w fs d) × ((i : ℕ) → i < 12 → direct_in x.from i ≢ 0 → direct_in own i ≡ direct_in x.from i)
    home = elim (cases_eq d other) [
      | inl e ↦
          let same : x.from ≡ x.to = same_ok x.from x.to (x.is_from ∙ (ap (directory_in u fs) e ∙ sym x.is_to)) in (
            more.after,
            more.directory ∙ ap (directory_in w fs) (sym e),
            λ i lt some.
                let was : direct_in to1.after i ≡ direct_in x.from i = direct_to i lt ∙ ap (λ (f : List ℕ). direct_in f i) (sym same) in
                pointer_kept m w fs other slot.inode new_name to1.after more once_more at room_then i lt (λ none. some (sym was ∙ none)) ∙ was,
          )
      | inr ne ↦
          let from_at = directory_from u fs d x.from x.is_from in
          let from1 = z.linked.before d x.from from_at.0 in
          (from1.after, (directory_to m fs d from1.after from1.found (from1.mode ∙ from_at.1)) ∙ sym (directory_same m w fs d (z.entered.others d ne).0), λ i lt some. as_direct u m fs d x.from from1 i lt)
    ]

    pub home_place : IsPlaceOf home.0 slot entry.at
    home_place =
        let k = entry.is in
        record { low = k.low; few = k.few; block = home.2 entry.at.0 k.low (λ none. k.there (sym k.block ∙ none)) ∙ k.block; there = k.there; place = k.place }

    -- and the inode is in use
    used : (own : List ℕ) × (Ok own ≡ inode_in w fs slot.inode)
    used = elim (cases_eq slot.inode other) [
      | inl e ↦ (more.after, (directory_from w fs other more.after more.directory).0 ∙ ap (inode_in w fs) (sym e))
      | inr ne ↦ let k = z.linked.before slot.inode x.own x.is_own in (k.after, k.found ∙ sym (z.entered.others slot.inode ne).0)
    ]

    abbrev both : Files
    both = with_entry (with_entry files other at (Some (new_name, slot.inode))) d entry.at None

    linked_both : 1 ≤ inode_links x.own → 1 ≤ links_of (both slot.inode)
    linked_both linked =
        let same : links_of (both slot.inode) ≡ inode_links x.own =
        links_of_entry (with_entry files other at (Some (new_name, slot.inode))) slot.inode d entry.at None
        ∙ (links_of_entry files slot.inode other at (Some (new_name, slot.inode)) ∙ inode_linked u fs slot.inode x.own x.is_own) in
        subst (λ (l : ℕ). 1 ≤ l) (sym same) linked

    -- the inode has a link more, and both names
    pub named_value : files_of w fs ≡ with_entry (with_link files slot.inode) other at (Some (new_name, slot.inode))
    named_value = entered ∙ ap (λ (f : Files). with_entry f other at (Some (new_name, slot.inode))) (adds_value u m fs slot.inode x.own x.is_own z.linked)

    pub cleared_value : (v : ℕ → List ℕ) → Clearing w v fs slot → files_of v fs ≡ with_entry (with_entry (with_link files slot.inode) other at (Some (new_name, slot.inode))) d entry.at None
    cleared_value v c =
        let there = home in
        clearing_value w v fs d there.0 there.1 (once d there.0 there.1) slot entry.at home_place c ∙ ap (λ (f : Files). with_entry f d entry.at None) named_value

    moved_value : 1 ≤ inode_links x.own → (last : ℕ → List ℕ) → Unnamed w last fs slot → files_of last fs ≡ both
    moved_value linked last g =
        let taken = takes_value g.middle last fs slot.inode used.0 (used.1 ∙ sym (g.cleared.inodes slot.inode)) g.took in
        let gone : files_of g.middle fs ≡ with_link both slot.inode =
        cleared_value g.middle g.cleared
        ∙ (ap (λ (f : Files). with_entry f d entry.at None) (entry_after_link files slot.inode other at (Some (new_name, slot.inode)))
        ∙ entry_after_link (with_entry files other at (Some (new_name, slot.inode))) slot.inode d entry.at None) in
        taken ∙ (ap (λ (f : Files). without_link f slot.inode) gone ∙ link_and_less both slot.inode (linked_both linked))

    pub moved_leads : 1 ≤ inode_links x.own → (last : ℕ → List ℕ) → Unnamed w last fs slot → (y : Unit {0}) → Leads (Ok (moved files d (entry.at, slot.inode) other new_name at)) last fs y
    moved_leads linked last g y = (refl, λ i. ap (λ (f : Files). f i) (moved_value linked last g))
