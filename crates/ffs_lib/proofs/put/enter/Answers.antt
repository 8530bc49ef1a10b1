use Rattle.ffs_lib.proofs.Common.{IsLibrary, IsRoom, Room, direct_in, entry_of, half_at, latest, put, room_in, zero_block}
use Rattle.ffs_lookup.specs.declared.places.Room.TheVariants.{Entry, Pointer}
use Rattle.ffs_lib.specs.Orders.{Action, Acts, Attaches, grown_edit}
use Rattle.ffs_lib.proofs.Orders.{entered_is, gap_act}
use Rattle.std.proofs.Common.{rules, ◌≡◌, ◌+◌, ◌∙◌, ◌*◌, List, ℕ, [], Some, ap, subst, sym, IfOk}
use Rattle.ffs_lookup.proofs.ForCallers.{same_ok}
use Rattle.ffs_lib.specs.Edits.{edit_at}
use Rattle.ffs_lib.specs.Steps.{Ends, Enters, IsEntry, Proposed, StopsEntering}
use Rattle.ffs_lib.proofs.Fields.{entry_names}
use Rattle.ffs_lib.proofs.Laws.{finishes, home_of}
use Rattle.ffs_lib.proofs.NameLaws.{enters, enters_short, not_entered}
use Rattle.ffs_lib.proofs.put.enter.Goals as goal

pub returns-in-Entry : goal.returns-in-Entry
returns-in-Entry g c =
    let old = g.S.Store.state_of c.args.store.now in
    let new = g.S.Store.state_of c.put.new.store in
    let room = c.in-Entry in
    let found = c.in_ok-directory.directory in
    let bytes = c.entry_bytes-entry.result in
    let spelled = c.entry_bytes-entry.ensures.bytes in
    let b : IsEntry bytes c.args.inode c.args.name.now = record { spelled = spelled; whole = c.entry_bytes-entry.ensures.whole; named = c.requires; half = ap (λ (m : List ℕ). half_at m 0) spelled ∙ entry_names c.args.inode c.args.name.now c.ranges.inode.fits } in
    let gap = subst (IsRoom old found) room.is c.in_ok-block.ensures.room in
    let first = ap (λ (r : Room). Some r) (sym room.is) ∙ c.in_ok-block.ensures.place in
    let at = c.in_ok-directory.ensures.found.is.stands in
    let entry = entry_of c.args.inode c.args.name.now in
    record {
      types = search rules;
      ends = λ T array directory e s m dir free.
          let exact = c.in_ok-directory.ensures.exact (subst IsLibrary (sym e) s.library) in
          finishes T _ room.block (edit_at (32 * room.place) bytes [] [] (Some c.args.after)) array old new _ _ s c.put.result (c.put.ensures.put T e)
          (enters_short T _ array old s c.args.number found c.in_ok-directory.ensures.found exact c.args.inode c.args.after m bytes c.args.name.now b room.block room.place gap first)
          (enters T _ array old s c.args.number found c.in_ok-directory.ensures.found exact c.args.inode c.args.after m bytes c.args.name.now b room.block room.place gap first new)
          (λ fault same told. not_entered T _ old new c.args.number found.inode exact same room.block room.place first (entry_of c.args.inode c.args.name.now) fault (edit_at (32 * room.place) bytes [] [] (Some c.args.after), told));
      order = λ T array directory e s m dir free.
          let exact = c.in_ok-directory.ensures.exact (subst IsLibrary (sym e) s.library) in
          let done = subst (λ (b : List ℕ). Proposed T c.args.fs.number room.block (edit_at (32 * room.place) b [] [] (Some c.args.after)) old new c.put.result) c.entry_bytes-entry.ensures.bytes (c.put.ensures.put T e) in
          subst (λ (a : Action). Acts T c.args.fs.number a old new c.put.result × IfOk c.put.result (λ (k : ℕ). new.next ≡ k + 1))
          (entered_is (latest old.lives) _ _ found.block found.inode entry c.args.after (home_of old _ _ found.block found.place at) exact (Some (Entry room.block room.place)) first)
          (gap_act T _ c.args.number room.block room.place found.inode entry c.args.after found.block old new c.put.result done);
    }

pub returns-in-Pointer : goal.returns-in-Pointer
returns-in-Pointer g c =
    let old = g.S.Store.state_of c.args.store.now in
    let found = c.in_ok-directory.directory in
    let spelled = c.entry_bytes-entry.ensures.bytes in
    let b : IsEntry c.entry_bytes-entry.result c.args.inode c.args.name.now = record { spelled = spelled; whole = c.entry_bytes-entry.ensures.whole; named = c.requires; half = ap (λ (m : List ℕ). half_at m 0) spelled ∙ entry_names c.args.inode c.args.name.now c.ranges.inode.fits } in
    let gap = subst (IsRoom old found) c.in-Pointer.is c.in_ok-block.ensures.room in
    let new = g.S.Store.state_of c.grow.new.store in
    let home = home_of old _ _ found.block found.place c.in_ok-directory.ensures.found.is.stands in
    record {
      types = search rules;
      ends = λ T array directory e s m dir free.
          let exact = c.in_ok-directory.ensures.exact (subst IsLibrary (sym e) s.library) in
          subst (λ (m : List ℕ). Ends T c.args.fs.number array new c.grow.result (Enters old new c.args.fs.number c.args.number c.args.name.now c.args.inode) (StopsEntering T c.args.fs.number old new c.args.number m)) spelled
          (c.grow.ensures.ends T array directory c.args.name.now c.args.inode e s m dir
          (ap (λ (r : Room). Some r) (sym c.in-Pointer.is) ∙ (c.in_ok-block.ensures.place ∙ ap (room_in (latest old.lives)) (same_ok found.inode directory (exact ∙ sym dir))))
          (ap (λ (i : List ℕ). direct_in i c.in-Pointer.index) (same_ok directory found.inode (dir ∙ sym exact)) ∙ gap.1) b);
      order = λ T array directory e s m dir free.
          let mine : found.inode ≡ directory = same_ok found.inode directory ((c.in_ok-directory.ensures.exact (subst IsLibrary (sym e) s.library)) ∙ sym dir) in
          let first = ap (λ (r : Room). Some r) (sym c.in-Pointer.is) ∙ (c.in_ok-block.ensures.place ∙ ap (room_in (latest old.lives)) mine) in
          let grows = c.grow.ensures.order T array directory c.args.name.now c.args.inode found.block e s m dir first (ap (λ (i : List ℕ). direct_in i c.in-Pointer.index) (sym mine) ∙ gap.1) b home in
          subst (λ (a : Action). Acts T c.args.fs.number a old new c.grow.result × IfOk c.grow.result (λ (k : ℕ). new.next ≡ k + 1))
          (entered_is (latest old.lives) _ _ found.block directory (entry_of c.args.inode c.args.name.now) c.args.after home dir (Some (Pointer c.in-Pointer.index)) first)
          (subst (λ (x : List ℕ). Acts T c.args.fs.number (Attaches 2 (put zero_block 0 x) found.block (grown_edit c.args.number directory c.in-Pointer.index c.args.after)) old new c.grow.result × IfOk c.grow.result (λ (k : ℕ). new.next ≡ k + 1)) spelled grows);
    }
