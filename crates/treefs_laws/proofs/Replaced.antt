-- An inode that was begun gets its first name, in the place of what had the name, if something had.
use Rattle.std.proofs.Common.{◌≡◌, ◌≢◌, ℕ, ℤ, ◌-◌, ◌<◌, ◌^◌, Bool, true, false, not, List, [], ◌∷◌, ◌++◌, length, take, Option, None, Some, Result, Ok, Err, refl, sym, ◌∙◌, ap, inl, inr, arith, subst, if◌then◌else◌}
use Rattle.std.specs.Prelude.{All, is_some, nat_le, option_map, ◌==◌}
use Rattle.std.specs.Option.{ok_or}
use Rattle.std.proofs.lemmas.Bool.{cases_eq, eq-eqb, ne_eqb}
use Rattle.std.proofs.lemmas.List.{length-map, map-append, take_at}
use Rattle.std.proofs.lemmas.List.Elements.{All-append, All-cons, All-nil, All-weaker}
use Rattle.std.proofs.lemmas.Option.{same_Some}
use Rattle.xn_model.specs.Types.{Types}
use Rattle.xn_model.specs.Lives.{StoreState}
use Rattle.treefs_format.specs.Fields.{fields_of}
use Rattle.treefs_format.specs.Inodes.{kind_of}
use Rattle.treefs_format.specs.Paths.{leaf_count}
use Rattle.treefs_format.specs.declared.kind.Kind.TheVariants as kind
use Rattle.treefs_model.specs.Acts.{Act, Ran, number_act}
use Rattle.treefs_model.specs.Changes.{less_links, lost, made, new_name, replaceable, replaced, touched as touched_inode}
use Rattle.treefs_model.specs.Files.{Files, Inode, Names, and_then, changed_at, changed_in, found, is_directory, names_for, renamed_in, when, with_inode, with_name}
use Rattle.treefs_model.specs.Reading.{files_of, key_in}
use Rattle.treefs_model.specs.declared.fault.Fault.{Fault}
use Rattle.treefs_model.specs.declared.fault.Fault.TheVariants.{Exists, IsDir, NoEntry}
use Rattle.treefs_lookup.specs.Inodes.{inode_found}
use Rattle.treefs_lookup.specs.Names.{entry_found}
use Rattle.treefs_lookup.specs.Readable.{readable}
use Rattle.treefs_lookup.specs.declared.inodes.Found.{Found}
use Rattle.treefs_edits.specs.Memories.{with_touched}
use Rattle.treefs_edits.specs.Missing.{node_starts}
use Rattle.treefs_edits.specs.Plans.{Begins, Does}
use Rattle.treefs_edits.specs.declared.memory.Touched.{Touched}
use Rattle.treefs_edits.specs.declared.start.Start.{Start}
use Rattle.treefs_edits.specs.declared.times.Times.{Times}
use Rattle.treefs_name_plans.specs.CommitPlans.{commit_acts, commit_acts_of, commit_plan, table_nodes}
use Rattle.treefs_name_plans.specs.Ends.{name_end, times_of}
use Rattle.treefs_name_plans.specs.Links.{link_act}
use Rattle.treefs_name_plans.specs.declared.commit_plan.CommitPlan.{CommitPlan}
use Rattle.treefs_name_plans.specs.declared.name_end.NameEnd.{NameEnd}
use Rattle.treefs_edits.specs.Missing.{last_or_owner}
use Rattle.treefs.specs.Committing.{CommitDoes, committed_memory}
use Rattle.treefs.specs.Remembered.{now_times, written_times}
use Rattle.treefs.specs.declared.volume.Volume.{Volume}
use Rattle.treefs_values.specs.Kinds.{kinds}
use Rattle.treefs_values.specs.Values.{KeepsBlocks, inode_with_links, led_to}
use Rattle.treefs_values.specs.Volumes.{IsVolume}
use Rattle.treefs_values.specs.Ways.{block_numbered}
use Rattle.treefs_values.proofs.ForCallers.{AreBegun, AreNew, AreOf, IsAt, IsEntry, IsFineStart, IsFound, KeepsInodes, New, acts_read, all_front, begun_so, blocks_in, entry_is, entry_still, found_inode, found_still, inodes_then, name_led, new_parts, of_long, of_parts, tabled_so}
use Rattle.treefs_laws.specs.Kept.{IsKept, files_in}
use Rattle.treefs_laws.specs.Begun.{IsBegun}
use Rattle.treefs_laws.specs.Open.{IsOpen}
use Rattle.treefs_laws.specs.Seen.{AreTimes, AreTouchedOnce, IsSession, seen_files, seen_inode, times_in}
use Rattle.treefs_laws.proofs.AsideTold.{aside_tells, aside_told, begun_others, begun_tells, others_are}
use Rattle.treefs_laws.proofs.Begun.{fine_nodes}
use Rattle.treefs_laws.proofs.Committed.{IsPlanned, first_said, here, planned_so}
use Rattle.treefs_laws.proofs.FirstName.{made_there, nodes_long, seen_with}
use Rattle.treefs_laws.proofs.Ended.{apart, fewer, times_by}
use Rattle.treefs_laws.proofs.NamesEnd.{fit, inode_seen, links_are_changes, newest, number_is, short, touched_session, value, value_there}
use Rattle.treefs_laws.proofs.NewPlanned.{IsSecondPlan, replacing_of, second_planned}
use Rattle.treefs_laws.proofs.Planned.{ended_is, same_done, then_ok}
use Rattle.treefs_laws.proofs.Seeing.{seen_changed, seen_named, seen_touched}
use Rattle.treefs_laws.proofs.StillOpen.{directory_there, ran_root, still_written}
use Rattle.treefs_laws.proofs.There.{changed_there}
use Rattle.treefs_laws.proofs.Touching.{all_touched}
use Rattle.treefs_laws.proofs.Unlinked.{not_directory}

-- What becomes of the files

-- two inodes change, in either order
pub swapped : (files : Files) (m d : ℕ) (g h : Inode → Inode) → m ≢ d → changed_at (changed_at files m g) d h ≡ changed_at (changed_at files d h) m g
swapped files m d g h ne = λ j k. at k j
  where
    own : changed_at files m g d ≡ files d
    own = ap (λ t. if t then changed_in g (files m) else files d) (ne_eqb d m (λ same. ne (sym same)))

    other : changed_at files d h m ≡ files m
    other = ap (λ t. if t then changed_in h (files d) else files m) (ne_eqb m d ne)

    at : (k : ℕ) → changed_at (changed_at files m g) d h k ≡ changed_at (changed_at files d h) m g k
    at k = elim (cases_eq k d) [
      | inl is ↦
          let apart : (k == m) ≡ false = ne_eqb k m (λ same. ne (sym same ∙ is)) in
          ap (λ t. if t then changed_in h (changed_at files m g d) else changed_at files m g k) (eq-eqb k d is)
          ∙ (ap (changed_in h) own
          ∙ (sym (ap (λ t. if t then changed_in h (files d) else files k) (eq-eqb k d is))
          ∙ sym (ap (λ t. if t then changed_in g (changed_at files d h m) else changed_at files d h k) apart)))
      | inr unlike ↦
          ap (λ t. if t then changed_in h (changed_at files m g d) else changed_at files m g k) (ne_eqb k d unlike)
          ∙ ((λ j. if k == m then changed_in g (sym other j) else files k)
          ∙ ap (λ x. if k == m then changed_in g (changed_at files d h m) else x) (sym (ap (λ t. if t then changed_in h (files d) else files k) (ne_eqb k d unlike))))
    ]

-- with the newest times of each
module _ (touched : List Touched) (clock : ℤ) (once : AreTouchedOnce touched) (files : Files) (d n m : ℕ) (name : List ℕ) (new inode : Inode)
    (there : files m ≡ Some inode) (free : files n ≡ None) (no_directory : m ≢ d) (lacks : All (λ touch. touch.number ≢ n) touched) where
  abbrev b : Bool
  b = nat_le inode.links 1

  abbrev named : Files
  named = with_name (with_inode files n (Some new)) d name (Some n)

  other : m ≢ n
  other same = absurd (cc (sym there ∙ (ap files same ∙ free)))

  same_inode : (x : Inode) → named m ≡ Some x → inode ≡ x
  same_inode x is =
      same_Some inode x (sym there
      ∙ (sym (ap (λ t. if t then Some new else files m) (ne_eqb m n other))
      ∙ (sym (ap (λ t. if t then changed_in (renamed_in name (Some n)) (with_inode files n (Some new) d) else with_inode files n (Some new) m) (ne_eqb m d no_directory)) ∙ is)))

  abbrev times : Option Times
  times = times_by touched clock m once inode.links (times_in inode) b

  abbrev left : List Touched
  left = written_times touched m times

  pub replaced_seen : seen_files (with_touched left d (record { mtime = clock; ctime = clock })) (changed_at named m (inode_with_links (inode.links - 1) times None))
      ≡ changed_at (made (seen_files touched files) clock d name n new) m (less_links clock)
  replaced_seen =
      seen_touched left (changed_at named m (inode_with_links (inode.links - 1) times None)) d (record { mtime = clock; ctime = clock })
      ∙ (ap (λ f. changed_at f d (touched_inode clock))
      (seen_changed touched left named m (inode_with_links (inode.links - 1) times None) (less_links clock)
      (λ j t ne. apart touched clock m once inode.links (times_in inode) b j t ne)
      (λ x is. let same = sym (same_inode x is) in
      fewer touched clock m once inode.links (times_in inode) x (ap (λ (i : Inode). i.links) same) (ap times_in same) b refl)
      ∙ ap (λ f. changed_at f m (less_links clock))
      (seen_named touched (with_inode files n (Some new)) d name (Some n) ∙ ap (λ f. with_name f d name (Some n)) (seen_with touched files n new lacks)))
      ∙ swapped (with_name (with_inode (seen_files touched files) n (Some new)) d name (Some n)) m d (less_links clock) (touched_inode clock) no_directory)

-- Where the name is free, this is what makes an inode

module _ (files after : Files) (clock : ℤ) (d : ℕ) (name : List ℕ) (n : ℕ) (new : Inode) where
  abbrev go : Option ℕ → Result Files Fault
  go o = and_then (replaceable files o) (λ m. Ok (lost (made files clock d name n new) clock m))

  none_named : (names : Names) (o : Option ℕ) → names name ≡ o → ◌≡◌ {A = Result (Unit {0}) Fault} (when (not (is_some o)) (tt {0}) Exists) (Ok tt) → names name ≡ None
  none_named names None is e = is
  none_named names (Some x) is e = absurd (cc e)

  pub replaces_none : new_name files d name ≡ Ok tt → after ≡ made files clock d name n new → replaced files clock d name n new ≡ Ok after
  replaces_none fine is =
      let x = then_ok (names_for files d name) (λ names. when (not (is_some (names name))) (tt {0}) Exists) tt fine in
      ap (λ r. and_then r (λ names. go (names name))) x.1 ∙ (ap go (none_named x.0 (x.0 name) refl x.2) ∙ ap Ok (sym is))

  some_named : (names : Names) (m : ℕ) (o : Option ℕ) → names name ≡ o → ◌≡◌ {A = Result ℕ Fault} (ok_or o NoEntry) (Ok m) → names name ≡ Some m
  some_named names m None is e = absurd (cc e)
  some_named names m (Some x) is e = is ∙ ap Some (same_done x m e)

  pub replaces_some : (m : ℕ) (inode : Inode) → and_then (names_for files d name) (λ names. ok_or (names name) NoEntry) ≡ Ok m → found files m ≡ Ok inode →
      is_directory inode.content ≡ false → after ≡ changed_at (made files clock d name n new) m (less_links clock) → replaced files clock d name n new ≡ Ok after
  replaces_some m inode number found_so plain is =
      let x = then_ok (names_for files d name) (λ names. ok_or (names name) NoEntry) m number in
      let done = λ (k : Option ℕ). lost (made files clock d name n new) clock k in
      ap (λ r. and_then r (λ names. go (names name))) x.1
      ∙ (ap go (some_named x.0 m (x.0 name) refl x.2)
      ∙ (ap (λ r. and_then (and_then r (λ (i : Inode). if is_directory i.content then Err IsDir else Ok (Some m))) (λ k. Ok (done k))) found_so
      ∙ (ap (λ t. and_then (if t then Err IsDir else Ok (Some m)) (λ k. Ok (done k))) plain ∙ ap Ok (sym is))))

-- What is found of a directory is no file

module _ (content : ℕ → List ℕ) (top d : ℕ) (name : List ℕ) (m : ℕ) (inode : Found) (inode_is : inode_found content top m ≡ Ok inode) (plain : inode.kind ≢ kind.Directory) where
  no_file : kind_of (fields_of (content (block_numbered content top d))).mode ≡ Some kind.Directory → m ≢ d
  no_file is same =
      plain (same_Some inode.kind kind.Directory
      (sym (found_inode content top m inode inode_is).kind ∙ (ap (λ x. kind_of (fields_of (content (block_numbered content top x))).mode) same ∙ is)))

module _ (T : Types) (state state' : StoreState) (volume : Volume) (d : ℕ) (name : List ℕ) (is_open : IsOpen T state volume)
    (wide : All (λ b. b < 256) name) (block : ℕ) (inode_now : Inode) (y_is : IsBegun state volume block inode_now) where
  abbrev fs : ℕ
  fs = volume.tree.fs.number

  abbrev top : ℕ
  top = volume.tree.top

  abbrev node : ℕ
  node = volume.tree.node_type

  abbrev inode : ℕ
  inode = volume.tree.inode_type

  abbrev content : ℕ → List ℕ
  content = readable state fs

  abbrev kept : IsKept T state volume
  kept = is_open.kept

  abbrev clock : ℤ
  clock = volume.memory.clock

  abbrev seen : Files
  seen = files_in state volume

  module _ (plan : CommitPlan) (p : IsSecondPlan state volume.tree volume.memory d name plan) where
    abbrev n : ℕ
    n = p.n

    abbrev m : ℕ
    m = p.ended.slot.number

    n_some : n ≢ 0
    n_some z = let low = p.next.some in absurd (omega (arith, z))

    n_short : n < 2 ^ 32
    n_short = let high = p.next.few in omega arith

    n_within : n - 1 < leaf_count
    n_within = let low = p.next.some in let high = p.next.few in omega arith

    at : (entry_found content top d name ≡ Ok p.ended.slot) × (inode_found content top m ≡ Ok p.ended.inode)
    at = ended_is content top d name p.ended p.found_so

    e : IsEntry content top d name p.ended.slot
    e = entry_is content top d name p.ended.slot at.0

    i : IsFound content top m p.ended.inode
    i = found_inode content top m p.ended.inode at.1

    m_plain : m ≢ d
    m_plain = no_file content top d name m p.ended.inode at.1 p.no_directory e.directory

    -- The store

    abbrev end : NameEnd
    end = name_end volume.memory p.ended

    abbrev commit : CommitPlan
    commit = replacing_of state volume.tree volume.memory d name n p.directory end

    abbrev starts : List Start
    starts = node_starts node inode (table_nodes commit) ++ []

    abbrev Fine : Start → Type 0
    Fine = IsFineStart T fs node inode top is_open.few is_open.tree

    fine : All Fine starts
    fine = All-append Fine (node_starts node inode (table_nodes commit)) []
        (fine_nodes T fs node inode top is_open.few is_open.tree kept.bytes.types.0 kept.bytes.some_types is_open.short (table_nodes commit)) (All-nil Fine)

    abbrev old_links : ℕ
    old_links = p.ended.inode.fields.links

    pub old_fit : AreTimes (times_of p.ended.inode.fields)
    old_fit = fit T state state' volume kept d name p.ended at.0 at.1 None

    abbrev old_times : Option Times
    old_times = newest volume.memory kept.session m d (times_of p.ended.inode.fields) old_fit (nat_le old_links 1)

    abbrev IsDone : StoreState → Type 0
    IsDone s = IsAt T fs node inode top s × (files_of content top n ≡ None)
        × (files_of (readable s fs) top
        ≡ changed_at (with_name (with_inode (files_of content top) n (Some inode_now)) d name (led_to n)) m (inode_with_links (old_links - 1) old_times None))

    module _ (begun : List ℕ) (b0 : StoreState) (begins : Begins T fs starts [] state b0 (Ok begun))
        (ran : Ran T fs (commit_acts commit name block begun) b0 state' (Ok tt)) where
      is_begun : AreBegun T fs node inode top is_open.few is_open.tree starts [] begun state b0
      is_begun = begun_so T fs node inode top is_open.few is_open.tree starts [] begun state b0 fine
          (here T state state' volume d name is_open wide block inode_now y_is) begins

      -- behind the acts that make the inode
      abbrev ends : ℕ → List Act
      ends holder = number_act end.block end.offset n (Some holder) ∷ link_act end.fewer end.block ∷ []

      ends_keep : (holder : ℕ) → All KeepsBlocks (ends holder)
      ends_keep holder =
          All-cons KeepsBlocks (number_act end.block end.offset n (Some holder)) (link_act end.fewer end.block ∷ []) refl
          (All-cons KeepsBlocks (link_act end.fewer end.block) [] refl (All-nil KeepsBlocks))

      from_middle : (holder : ℕ) (middle : StoreState) → IsAt T fs node inode top middle → KeepsInodes content (readable middle fs) top →
          files_of content top n ≡ None → files_of (readable middle fs) top ≡ with_inode (files_of content top) n (Some inode_now) →
          Ran T fs (ends holder) middle state' (Ok tt) → IsDone state'
      from_middle holder middle there inodes was files last =
          let slot_still = entry_still content (readable middle fs) top d name p.ended.slot e.number (inodes.inodes d e.number e.there) inodes.key at.0 in
          let found_now = found_still content (readable middle fs) top m i.number (inodes.inodes m i.number i.there) ∙ at.1 in
          let read = acts_read T fs (ends holder) middle state' there.store (ends_keep holder) last in
          let led = name_led node inode top (kinds middle fs) (readable middle fs) there.volume d name p.ended.slot slot_still p.ended.inode found_now (old_links - 1) old_times None
          (links_are_changes volume.memory kept.session m d (times_of p.ended.inode.fields) old_fit (nat_le old_links 1) (old_links - 1)
          (short T state state' volume kept d name p.ended at.0 at.1 None)) n n_short (Some holder) (Some end.block) in (
            record {
              store = read.0;
              root = ran_root T fs (ends holder) middle state' there.store (ends_keep holder) last ∙ there.root;
              volume = subst (λ t. IsVolume node inode t (readable state' fs) top) (sym read.2) (subst (λ c. IsVolume node inode (kinds middle fs) c top) (sym read.1) led.0);
            },
            was,
            ap (λ c. files_of c top) read.1
                ∙ (led.1 ∙ ap (λ f. changed_at (with_name f d name (led_to n)) m (inode_with_links (old_links - 1) old_times None)) files),
          )

      from_begun : (ys : List New) → begun ≡ blocks_in ys → AreOf T fs node inode top is_open.few is_open.tree starts ys →
          AreNew node inode (kinds b0 fs) (readable b0 fs) top ys → All (λ x. x.block ≢ block) ys → IsDone state'
      from_begun ys blocks of news others =
          let parts = of_parts T fs node inode top is_open.few is_open.tree (node_starts node inode (table_nodes commit)) [] ys of in
          let xs : List New = parts.0 in
          let zs : List New = parts.1 in
          let long : length (blocks_in xs) ≡ length (table_nodes commit) =
          length-map xs (λ (x : New). x.block) ∙ (of_long T fs node inode top is_open.few is_open.tree (node_starts node inode (table_nodes commit)) xs parts.3 ∙ nodes_long node inode (table_nodes commit)) in
          let split : blocks_in ys ≡ blocks_in xs ++ blocks_in zs = ap blocks_in parts.2 ∙ map-append (λ (x : New). x.block) xs zs in
          let front : take (length (table_nodes commit)) (blocks_in ys) ≡ blocks_in xs =
          ap (take (length (table_nodes commit))) split ∙ take_at (blocks_in xs) (blocks_in zs) (length (table_nodes commit)) long in
          let ran' = subst (λ bs. Ran T fs (commit_acts commit name block bs) b0 state' (Ok tt)) blocks ran in
          let ran'' = subst (λ acts. Ran T fs acts b0 state' (Ok tt)) (λ j. commit_acts_of commit name block (front j) []) ran' in
          let holder : ℕ = last_or_owner commit.owner (blocks_in xs) in
          let news' = new_parts node inode top (kinds b0 fs) (readable b0 fs) xs zs (subst (AreNew node inode (kinds b0 fs) (readable b0 fs) top) parts.2 news) in
          let apart = all_front (λ x. x.block ≢ block) xs zs (subst (All (λ x. x.block ≢ block)) parts.2 others) in
          let tells = begun_tells T state volume is_open block inode_now y_is starts fine begun b0 begins in
          let t = tabled_so T fs node inode top is_open.few is_open.tree b0 state is_begun.at is_begun.ways n n_some n_within p.next.can.free inode_now xs block parts.3 news'.0
          (λ s since h read. aside_told T state volume is_open block inode_now y_is s
          (aside_tells T state volume is_open block inode_now y_is xs b0 s since news'.0 apart.0 tells) h read) (ends holder) state' ran'' in
          from_middle holder t.middle t.tabled (inodes_then content (readable b0 fs) (readable t.middle fs) top is_begun.inodes t.inodes) (ap (λ f. f n) (sym is_begun.files) ∙ t.was)
          (t.files ∙ ap (λ f. with_inode f n (Some inode_now)) is_begun.files) t.ran

      pub stored : IsDone state'
      stored = from_begun is_begun.made is_begun.blocks_are is_begun.of is_begun.news (others_are block is_begun.made (subst (All (λ x. x ≢ block)) is_begun.blocks_are
          (begun_others T state volume is_open block inode_now y_is starts fine begun b0 begins)))

    carried : Does T fs (commit_plan name block commit) state state' (Ok tt) → IsDone state'
    carried does = elim does [
      | inl none ↦ absurd none
      | inr r ↦ stored r.0 r.1 r.2 r.3
    ]

    -- The volume

    abbrev later : Volume
    later = record volume { memory = committed_memory volume.memory d commit }

    module _ (done : IsDone state') where
      abbrev touched : List Touched
      touched = volume.memory.touched

      abbrev old_value : Inode
      old_value = value T state state' volume kept d name p.ended at.0 at.1 None

      old_there : files_of content top m ≡ Some old_value
      old_there = value_there T state state' volume kept d name p.ended at.0 at.1 None

      lead : led_to n ≡ Some n
      lead = ap (λ t. if t then None else Some n) (ne_eqb n 0 n_some)

      not_seen : seen n ≡ None
      unfolding seen_files
      not_seen = ap (option_map (seen_inode touched n)) done.1

      lacks : All (λ touch. touch.number ≢ n) touched
      lacks = All-weaker (λ (touch : Touched). seen touch.number ≢ None) (λ touch. touch.number ≢ n) (λ touch some same. some (ap seen same ∙ not_seen)) touched is_open.touched

      files_so : files_in state' later ≡ changed_at (made seen clock d name n inode_now) m (less_links clock)
      files_so =
          ap (seen_files later.memory.touched)
          (done.2 ∙ ap (λ l. changed_at (with_name (with_inode (files_of content top) n (Some inode_now)) d name l) m (inode_with_links (old_links - 1) old_times None)) lead)
          ∙ replaced_seen touched clock kept.session.once (files_of content top) d n m name inode_now old_value old_there done.1 m_plain lacks

      session : IsSession later.memory
      session =
          let s = touched_session volume.memory kept.session m d (times_of p.ended.inode.fields) old_fit (nat_le old_links 1) in
          record { once = s.once; clock = s.clock; times = s.times }

      number : and_then (names_for seen d name) (λ names. ok_or (names name) NoEntry) ≡ Ok m
      number = number_is T state state' volume kept d name p.ended at.0 at.1 None

      still_there : (j : ℕ) → seen j ≢ None → files_in state' later j ≢ None
      still_there j some none =
          changed_there (made seen clock d name n inode_now) m (less_links clock) j (made_there seen clock d name n inode_now j some) (ap (λ f. f j) (sym files_so) ∙ none)

      pub said : IsOpen T state' later × (seen n ≡ None) × (replaced seen clock d name n inode_now ≡ Ok (files_in state' later))
      said = (
        record {
          kept = record { store = done.0.store; bytes = done.0.volume; session = session };
          few = is_open.few;
          tree = is_open.tree;
          short = is_open.short;
          root = done.0.root;
          touched = all_touched (λ touch. files_in state' later touch.number ≢ None) d (now_times volume.memory) (still_there d (directory_there seen d m name number))
              (written_times touched m old_times) (still_written T state volume is_open (files_in state' later) still_there m old_times);
        },
        not_seen,
        replaces_some seen (files_in state' later) clock d name n inode_now m (seen_inode touched m old_value) number
            (inode_seen T state state' volume kept d name p.ended at.0 at.1 None)
            (not_directory content (key_in content top) p.ended.inode.block p.ended.inode.fields.parent p.ended.inode.kind p.no_directory) files_so,
      )

  -- The call

  abbrev Said : Volume → ℕ → Type 0
  Said volume' n = IsOpen T state' volume' × (seen n ≡ None) × (replaced seen clock d name n inode_now ≡ Ok (files_in state' volume'))

  second_said : (volume' : Volume) (n : ℕ) (plan : CommitPlan) → IsSecondPlan state volume.tree volume.memory d name plan →
      IsPlanned T state state' volume d name is_open wide block inode_now y_is true volume' n plan → Said volume' n
  second_said volume' n plan p (is_planned, does, number, is) =
      let whole = said plan p (carried plan p (subst (λ x. Does T fs (commit_plan name block x) state state' (Ok tt)) p.plan_is does)) in
      subst (Said volume') (sym number)
      (subst (λ v. Said v plan.number) (sym is)
      (subst (λ (q : CommitPlan). Said (record volume { memory = committed_memory volume.memory d q }) q.number) (sym p.plan_is) whole))

  pub replaced_said : (volume' : Volume) (number : ℕ) → CommitDoes T state state' volume volume' block d name true (Ok number) → Said volume' number
  replaced_said volume' number does =
      let c = planned_so T state state' volume d name is_open wide block inode_now y_is true volume' number does in
      elim (second_planned state volume.tree volume.memory d name c.0 c.1.0) [
        | inl p ↦
            let first = first_said T state state' volume d name is_open wide block inode_now y_is true volume' number c.0 p c.1 in
            (first.0, first.1.1, replaces_none seen (files_in state' volume') clock d name number inode_now first.1.0 first.1.2)
        | inr p ↦ second_said volume' number c.0 p c.1
      ]
