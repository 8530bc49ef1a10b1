-- A name moves: what its edits make of the store and of the files that the bytes say.
use Rattle.std.proofs.Common.{◌≡◌, ◌≢◌, ℕ, zero, suc, ◌+◌, ◌-◌, ◌<◌, ◌≤◌, ◌^◌, Bool, true, false, List, [], ◌∷◌, ◌++◌, length, Option, None, Some, Ok, refl, sym, ◌∙◌, ap, inl, inr, arith, subst, if◌then◌else◌}
use Rattle.std.specs.Prelude.{All, Contains, nat_le, slice_index, ◌==◌}
use Rattle.std.specs.Int.{w32, to_le_bytes}
use Rattle.std.proofs.lemmas.Option.{same_Some}
use Rattle.std.proofs.lemmas.Bool.{and_parts, eqb-false, eqb-true, ne_eqb}
use Rattle.std.proofs.lemmas.List.{append-nil}
use Rattle.std.proofs.lemmas.List.Elements.{All-cons, All-nil}
use Rattle.xn_model.specs.Types.{Types}
use Rattle.xn_model.specs.Lives.{StoreState}
use Rattle.treefs_format.specs.Candidates.{candidates, name_hash}
use Rattle.treefs_format.specs.Fields.{IsInRange}
use Rattle.treefs_format.specs.Names.{is_name}
use Rattle.treefs_format.specs.Paths.{leaf_count}
use Rattle.treefs_format.specs.Records.{Entry, entry_bytes, is_live}
use Rattle.treefs_format.specs.declared.kind.Kind.TheVariants as kind
use Rattle.treefs_format.specs.declared.fields.Change.TheVariants.{Ctime, Links, Mtime, Parent}
use Rattle.treefs_model.specs.Acts.{Act, Ran, number_act, one_patch, patch_act}
use Rattle.treefs_model.specs.Files.{Files, Inode, changed_at, with_name}
use Rattle.treefs_model.specs.Reading.{block_at, key_in}
use Rattle.treefs_lookup.specs.Buckets.{bucket_block}
use Rattle.treefs_lookup.specs.Inodes.{inode_found}
use Rattle.treefs_lookup.specs.Names.{entry_found, slot_named}
use Rattle.treefs_lookup.specs.Readable.{readable}
use Rattle.treefs_lookup.specs.declared.inodes.Found.{Found}
use Rattle.treefs_lookup.specs.declared.names.Slot.{Slot}
use Rattle.treefs_edits.specs.Kinds.{links_act, parent_parts}
use Rattle.treefs_edits.specs.Memories.{Memory, newest_times}
use Rattle.treefs_edits.specs.Plans.{Does}
use Rattle.treefs_edits.specs.declared.times.Times.{Times}
use Rattle.treefs_name_plans.specs.Additions.{addition_acts, addition_starts, rewriting}
use Rattle.treefs_name_plans.specs.Ends.{name_end, times_of}
use Rattle.treefs_name_plans.specs.LinkPlans.{one_more}
use Rattle.treefs_name_plans.specs.Moves.{is_kind_directory}
use Rattle.treefs_name_plans.specs.Namings.{naming_block, naming_ends}
use Rattle.treefs_name_plans.specs.NewNames.{addition_in}
use Rattle.treefs_name_plans.specs.RenamePlans.{links_between, old_offset, planned_move, rename_acts, rename_plan, rewritten_offset, stands_in}
use Rattle.treefs_name_plans.specs.declared.addition.Addition.{Addition}
use Rattle.treefs_name_plans.specs.declared.addition.Addition.TheVariants.{Behind, Rewritten, Made}
use Rattle.treefs_name_plans.specs.declared.moved.Moved.{Moved}
use Rattle.treefs_name_plans.specs.declared.name_end.NameEnd.{NameEnd}
use Rattle.treefs_name_plans.specs.declared.naming.Naming.{Naming}
use Rattle.treefs_name_plans.specs.declared.naming.Naming.TheVariants.{Added, Replaced}
use Rattle.treefs_name_plans.specs.declared.rename_plan.Moving.{Moving}
use Rattle.treefs_name_plans.specs.declared.rename_plan.Moving.TheVariants.{Apart, Together}
use Rattle.treefs_name_plans.specs.declared.rename_plan.RenamePlan.{RenamePlan}
use Rattle.treefs.specs.declared.volume.Volume.{Volume}
use Rattle.treefs_values.specs.Kinds.{kinds}
use Rattle.treefs_values.specs.Values.{AreChanges, inode_with_links, led_to, links_parts}
use Rattle.treefs_values.specs.Ways.{IsWay, block_numbered}
use Rattle.treefs_values.proofs.ForCallers.{AreBegun, AreNew, IsAlike, IsDirectoryAt, IsEntry, IsFound, IsNew, IsPlace, New, Stands, begun_so, blocks_in, candidates_few, directory_is, directory_kept, directory_stays, edit_is, entry_is, found_inode, new_kept, ran_parts, same_bucket, stands_alike, stands_found, stands_other, stands_there}
use Rattle.treefs_laws.specs.Kept.{IsKept}
use Rattle.treefs_laws.specs.Open.{IsOpen}
use Rattle.treefs_laws.specs.Seen.{AreTimes}
use Rattle.treefs_laws.proofs.Begun.{fine_addition}
use Rattle.treefs_laws.proofs.InDirectory.{directory_here, name_long, number_few}
use Rattle.treefs_laws.proofs.InRange.{time_fits, word_fits}
use Rattle.treefs_laws.proofs.MovePlans.{IsEnded, IsMoving, IsNaming}
use Rattle.treefs_laws.proofs.MovedSteps.{IsHere, MayEnd, after_ends, apart_ends, at, both_made, both_set, ends_step, files_at, links_step, number_step, still_ends}
use Rattle.treefs_laws.proofs.MovesPlanned.{IsMoved}
use Rattle.treefs_laws.proofs.Named.{IsPrepared, addition_made, prepared_so, ready_stays}
use Rattle.treefs_laws.proofs.NamesEnd.{fit as fit_of, links_are_changes, short as short_of}
use Rattle.treefs_laws.proofs.NewPlanned.{IsAddition, IsFreeName, addition_is}
use Rattle.treefs_laws.proofs.Planned.{ended_is, same_done}
use Rattle.treefs_laws.proofs.Touching.{times_fit}

-- Links, times, and where told a parent

links_fine : (links : ℕ) (times : Times) (parent : Option ℕ) → links < 2 ^ 32 → AreTimes times → ((p : ℕ) → parent ≡ Some p → p < 2 ^ 32) →
    All AreChanges (links_parts links (Some times) parent)
links_fine links times parent short fit low = All-cons AreChanges (Links links ∷ []) ((Mtime times.mtime ∷ Ctime times.ctime ∷ []) ∷ parent_parts parent)
    (refl, All-cons IsInRange (Links links) [] short (All-nil IsInRange))
    (All-cons AreChanges (Mtime times.mtime ∷ Ctime times.ctime ∷ []) (parent_parts parent)
    (refl, All-cons IsInRange (Mtime times.mtime) (Ctime times.ctime ∷ []) fit.0 (All-cons IsInRange (Ctime times.ctime) [] fit.1 (All-nil IsInRange)))
    (by parent low))
  where
    by : (parent : Option ℕ) → ((p : ℕ) → parent ≡ Some p → p < 2 ^ 32) → All AreChanges (parent_parts parent)
    by None low = All-nil AreChanges
    by (Some p) low = All-cons AreChanges (Parent p ∷ []) [] (refl, All-cons IsInRange (Parent p) [] (low p refl) (All-nil IsInRange)) (All-nil AreChanges)

module _ (T : Types) (state state' : StoreState) (volume : Volume) (d : ℕ) (name : List ℕ) (to : ℕ) (new : List ℕ) (is_open : IsOpen T state volume)
    (wide : All (λ b. b < 256) new) (moved : Moved) (m : IsMoved state volume d name to new moved) (not_d : moved.old.slot.number ≢ d) (not_to : moved.old.slot.number ≢ to) where
  abbrev fs : ℕ
  fs = volume.tree.fs.number

  abbrev top : ℕ
  top = volume.tree.top

  abbrev node : ℕ
  node = volume.tree.node_type

  abbrev inode : ℕ
  inode = volume.tree.inode_type

  abbrev memory : Memory
  memory = volume.memory

  abbrev content : ℕ → List ℕ
  content = readable state fs

  abbrev key : List ℕ
  key = key_in content top

  abbrev slot : Slot
  slot = moved.old.slot

  abbrev pub n : ℕ
  n = moved.old.slot.number

  abbrev x : Found
  x = moved.old.inode

  abbrev c : ℕ
  c = m.into.block

  abbrev Here : StoreState → Type 0
  Here s = IsHere T fs node inode top s

  abbrev now_at : StoreState → ℕ → ℕ
  now_at s k = at T fs node inode top s k

  abbrev pub files_then : StoreState → Files
  files_then s = files_at T fs node inode top s

  kept : IsKept T state volume
  kept = is_open.kept

  here : Here state
  here = record { store = kept.store; root = is_open.root; volume = kept.bytes }

  found_both : (entry_found content top d name ≡ Ok slot) × (inode_found content top n ≡ Ok x)
  found_both = ended_is content top d name moved.old m.old_is

  e : IsEntry content top d name slot
  e = entry_is content top d name slot found_both.0

  i : IsFound content top n x
  i = found_inode content top n x found_both.1

  stands : (s : Stands content top d name slot.block slot.offset) × (is_live s.record_of.entry ≡ true)
  stands = stands_found content top d name slot found_both.0

  n_short : n < 2 ^ 32
  n_short = number_few content top n i.number i.there

  x_some : x.block ≢ 0
  x_some z = i.there (sym i.block ∙ z)

  -- its links, and its times

  bytes : All (λ b. b < 256) (content (block_numbered content top n))
  bytes = (kept.bytes.blocks (block_numbered content top n) (λ z. kept.bytes.some_types.1 (sym (kept.bytes.typed.inodes n i.there) ∙ z))).1

  fit : AreTimes (times_of x.fields)
  fit = subst (λ f. AreTimes (times_of f)) (sym i.fields) (time_fits (content (block_numbered content top n)) bytes 24, time_fits (content (block_numbered content top n)) bytes 32)

  abbrev pub links : ℕ
  links = moved.old.inode.fields.links

  whole_links : links < 2 ^ 32
  whole_links = subst (λ f. f.links < 2 ^ 32) (sym i.fields) (word_fits (content (block_numbered content top n)) bytes 4)

  abbrev pub newest_now : Times
  newest_now = newest_times memory n (times_of moved.old.inode.fields)

  pub newest_fits : AreTimes newest_now
  newest_fits = ((times_fit n (times_of x.fields) fit memory.touched kept.session.times).0, kept.session.clock)

  abbrev pub parent : Option ℕ
  parent = if is_kind_directory moved.old.inode.kind then Some to else None

  into_is : IsFound content top to m.into × (m.into.kind ≡ kind.Directory)
  into_is = directory_is content top to m.into m.there'

  to_short : to < 2 ^ 32
  to_short = number_few content top to into_is.0.number into_is.0.there

  parent_short : (p : ℕ) → parent ≡ Some p → p < 2 ^ 32
  parent_short p is = by (is_kind_directory x.kind) is
    where
      by : (t : Bool) → ◌≡◌ {A = Option ℕ} (if t then Some to else None) (Some p) → p < 2 ^ 32
      by true e = subst (λ q. q < 2 ^ 32) (same_Some to p e) to_short
      by false e = absurd (cc e)

  abbrev pub more_inode : Inode → Inode
  more_inode = inode_with_links (links + 1) (Some newest_now) parent

  abbrev pub less_inode : Inode → Inode
  less_inode = inode_with_links links (Some newest_now) None

  -- the files then

  abbrev pub renamed_by : Files → Files
  renamed_by files = with_name (with_name files d name None) to new (Some n)

  abbrev pub moved_by : Naming → Moving → Files → Files
  moved_by naming (Together times) files = after_ends T fs node inode top naming (renamed_by files)
  moved_by naming (Apart pair) files = after_ends T fs node inode top naming
      (changed_at (with_name (with_name (changed_at files n more_inode) to new (Some n)) d name None) n less_inode)

  abbrev pub IsMovedTo : Naming → Moving → StoreState → Type 0
  IsMovedTo naming moving s = Here s × (files_then s ≡ moved_by naming moving (files_then state))

  lead : led_to n ≡ Some n
  lead = ap (λ t. if t then None else Some n) (ne_eqb n 0 i.number)

  -- The new name is made

  module _ (addition : Addition) (free : IsFreeName content top to new c) (addition_so : addition_in state volume.tree to c new ≡ Ok addition) where
    dir : IsDirectoryAt content top to c key
    dir = directory_here T state volume to new kept c free

    few_of : (j : ℕ) → Contains (candidates (name_hash key new)) j → j ≤ leaf_count
    few_of j has = candidates_few (name_hash key new) j has

    placed : IsAddition content key node c new addition
    placed = addition_is state volume.tree to c new dir.there few_of free addition addition_so

    abbrev entry : Entry
    entry = record { number = n; name = new }

    abbrev Prepared : List Act → StoreState → StoreState → Type 0
    Prepared rest old s = IsPrepared T fs node inode top is_open.few is_open.tree state to c key new free.named wide (name_long new free.named) few_of n n_short addition rest old s

    prepared : (rest : List Act) (old s : StoreState) → Here old → IsDirectoryAt (readable old fs) top to c key → IsAlike content (readable old fs) c →
        ((l : ℕ) (os : List ℕ) → IsWay os l → block_at (readable old fs) c os ≡ block_at content c os) → Ran T fs (rewriting addition ++ rest) old s (Ok tt) → Prepared rest old s
    prepared rest old s there dir' alike ways ran =
        prepared_so T fs node inode top is_open.few is_open.tree state to c key new free.named wide (name_long new free.named) few_of n n_short addition rest old s there dir'
        (record { alike = alike; ways = ways }) placed ran

    -- in one block

    in_block : (block k : ℕ) → k ≤ leaf_count → block ≡ bucket_block content c k → block ≡ slot.block → d ≡ to
    in_block block k few is same =
        (same_bucket node inode top (kinds state fs) content kept.bytes d name slot.block slot.offset stands.0 to k dir.number few
        (sym same ∙ (is ∙ ap (λ y. bucket_block content y k) (sym dir.block)))).0

    placed_in : (block offset : ℕ) → IsPlace content key c new block offset → block ≡ slot.block → d ≡ to
    placed_in block offset (inl p) same = in_block block p.bucket (few_of p.bucket p.candidate) p.block_is same
    placed_in block offset (inr p) same = in_block block p.bucket (few_of p.bucket p.candidate) p.block_is same

    together_from : (d ≡ to) → (block offset behind : ℕ) → block ≡ slot.block → stands_in (Added addition) slot.block ≡ true →
        ((s : StoreState) (rest : List Act) (q : Prepared rest state s) → IsPlace (readable q.middle fs) key c new block offset) →
        Ran T fs (rewriting addition ++ (patch_act slot.block (one_patch (old_offset slot (Added addition)) (to_le_bytes w32 0) ++ one_patch offset (entry_bytes entry)) (Some behind) ∷ [])) state state' (Ok tt) →
        Here state' × (files_then state' ≡ renamed_by (files_then state))
    together_from same block offset behind block_is inside place_of ran =
        let act = patch_act slot.block (one_patch (old_offset slot (Added addition)) (to_le_bytes w32 0) ++ one_patch offset (entry_bytes entry)) (Some behind) in
        let q = prepared (act ∷ []) state state' here dir (record { own = refl; leaves = λ i. refl; bytes = λ i some. refl }) (λ l os way. refl) ran in
        let own = subst (λ y. (s : Stands content top y name slot.block slot.offset) × (is_live s.record_of.entry ≡ true)) same stands in
        let s = q.moved slot name own.0 own.1 inside in
        elim q.ran [
          | inl none ↦ absurd none
          | inr r ↦
              let edit = edit_is T fs act q.middle r.1 r.0 q.prepared.store refl r.2 in
              let both = both_made T fs node inode top q.middle r.1 q.prepared to c key q.dir name slot.block (old_offset slot (Added addition)) s new n n_short free.named wide
              (name_long new free.named) block offset (place_of state' (act ∷ []) q) block_is (Some behind) edit in
              subst (λ y. Here y × (files_then y ≡ renamed_by (files_then state))) (sym r.3.1) (
                both.0,
                both.1 ∙ ((λ j. with_name (with_name (q.files j) to name None) to new (lead j)) ∙ ap (λ y. with_name (with_name (files_then state) y name None) to new (Some n)) (sym same)),
              )
        ]

    -- in another one

    not_at : (b : ℕ) (s : StoreState) → b ≢ 0 → (zs : List New) → ((z : New) → IsNew node inode (kinds s fs) (readable s fs) top z → b ≢ z.block) →
        AreNew node inode (kinds s fs) (readable s fs) top zs → (k : ℕ) → b ≢ slice_index (blocks_in zs) k
    not_at b s some [] other news k same = some same
    not_at b s some (z ∷ zs) other news zero same = other z news.0 same
    not_at b s some (z ∷ zs) other news (suc k) same = not_at b s some zs other news.2 k same

    elsewhere : (a : Addition) (s : StoreState) (v : Here s) (b o : ℕ) → Stands (readable s fs) top d name b o → (zs : List New) →
        AreNew node inode (kinds s fs) (readable s fs) top zs → stands_in (Added a) b ≡ false → b ≢ naming_block (Added a) (blocks_in zs)
    elsewhere (Behind block offset) s v b o st zs news outside same = eqb-false block b outside (sym same)
    elsewhere (Rewritten old) s v b o st zs news outside same = eqb-false old.block b outside (sym same)
    elsewhere (Made made) s v b o st zs news outside same =
        not_at b s (stands_there node inode top (kinds s fs) (readable s fs) v.volume d name b o st) zs
        (λ z is. stands_other node inode top (kinds s fs) (readable s fs) v.volume d name b o st z is) news (length (blocks_in zs) - 1) same

    abbrev apart_acts_of : ℕ → ℕ → List ℕ → List Act
    apart_acts_of first behind begun =
        links_act x.block (links + 1) (Some newest_now) parent (Some first)
        ∷ (addition_acts addition begun entry x.block
        ++ (number_act slot.block slot.offset 0 (Some behind) ∷ links_act x.block links (Some newest_now) None (Some slot.block) ∷ []))

    apart_added : (first behind : ℕ) (begun : List ℕ) (b0 : StoreState) → AreBegun T fs node inode top is_open.few is_open.tree (addition_starts addition) [] begun state b0 →
        stands_in (Added addition) slot.block ≡ false → links + 1 < 2 ^ 32 →
        Ran T fs (rewriting addition ++ apart_acts_of first behind begun) b0 state' (Ok tt) →
        Here state' × (files_then state' ≡ changed_at (with_name (with_name (changed_at (files_then state) n more_inode) to new (Some n)) d name None) n less_inode)
    apart_added first behind begun b0 b outside short ran =
        let zs : List New = b.made in
        let stays = directory_stays content (readable b0 fs) top to c key b.inodes dir in
        let tail = number_act slot.block slot.offset 0 (Some behind) ∷ links_act x.block links (Some newest_now) None (Some slot.block) ∷ [] in
        let more = links_act x.block (links + 1) (Some newest_now) parent (Some first) in
        let ran' = subst (λ bs. Ran T fs (rewriting addition ++ apart_acts_of first behind bs) b0 state' (Ok tt)) b.blocks_are ran in
        let q = prepared (apart_acts_of first behind (blocks_in zs)) b0 state' b.at stays.0 stays.1 stays.2 ran' in
        let s0 = stands_alike content (readable b0 fs) top d name slot.block slot.offset stands.0 (b.inodes.inodes d e.number e.there) in
        let s1 = q.stands d name slot.block slot.offset s0 outside in
        let at_b0 : now_at b0 n ≡ x.block = (b.inodes.inodes n i.number i.there).block ∙ sym i.block in
        let at_q : now_at q.middle n ≡ x.block = q.numbered n ∙ at_b0 in
        let fine_more = links_fine (links + 1) newest_now parent short newest_fits parent_short in
        let fine_less = links_fine links newest_now None whole_links newest_fits (λ p none. absurd (cc none)) in
        elim q.ran [
          | inl none ↦ absurd none
          | inr r ↦
              let s2 : StoreState = r.1 in
              let edit = edit_is T fs more q.middle s2 r.0 q.prepared.store refl r.2 in
              let step = links_step T fs node inode top q.middle s2 q.prepared n x.block i.number at_q x_some (links + 1) (Some newest_now) parent fine_more (Some first) edit in
              let st2 = stands_alike (readable q.middle fs) (readable s2 fs) top d name slot.block slot.offset s1 (step.kept d (λ same. not_d (sym same)) s1.number s1.there) in
              let to_there : now_at q.middle to ≢ 0 = λ z. q.dir.there (sym q.dir.block ∙ z) in
              let stays2 = directory_kept (readable q.middle fs) (readable s2 fs) top to c key step.key (step.kept to (λ same. not_to (sym same)) q.dir.number to_there) q.dir in
              let ready = ready_stays T fs node inode top is_open.few is_open.tree state to c key new free.named wide (name_long new free.named) few_of n n_short q.middle s2 stays2.1 stays2.2
              addition q.ready in
              let zs_new = new_kept node inode top (kinds b0 fs) (kinds s2 fs) (readable b0 fs) (readable s2 fs) (λ z. Unit {0}) zs (λ k y lt. tt) (λ z any is. step.keeps z (q.keeps z is)) b.news in
              let rp = ran_parts T fs (addition_acts addition (blocks_in zs) entry x.block) tail s2 state' r.3 in
              let done = addition_made T fs node inode top is_open.few is_open.tree state to c key new free.named wide (name_long new free.named) few_of n n_short addition s2 rp.0 x.block zs
              step.here stays2.0 ready b.of zs_new rp.1 in
              let st3 = done.3 d name slot.block slot.offset st2 (elsewhere addition s2 step.here slot.block slot.offset st2 zs zs_new outside) in
              let at_s2 : now_at s2 n ≡ x.block = step.numbered n ∙ at_q in
              let at_s3 : now_at rp.0 n ≡ x.block = done.2 n i.number (λ z. x_some (sym at_s2 ∙ z)) ∙ at_s2 in
              let last = apart_ends T fs node inode top (Added addition) rp.0 state' done.0 tt d name slot.block slot.offset st3 n x.block i.number at_s3 x_some links (Some newest_now) fine_less
              (Some behind) rp.2 in
              let files : files_then rp.0 ≡ with_name (changed_at (files_then state) n more_inode) to new (Some n) =
              done.1 ∙ ((λ j. with_name (files_then s2) to new (lead j)) ∙ ap (λ f. with_name f to new (Some n)) (step.files ∙ ap (λ f. changed_at f n more_inode) (q.files ∙ b.files))) in
              (last.0, last.1 ∙ ap (λ f. changed_at (with_name f d name None) n less_inode) files)
        ]

  -- The record that the new name has is used again

  module _ (end : NameEnd) (r : IsEnded state volume d name to new moved m end) where
    abbrev slot' : Slot
    slot' = r.ended.slot

    found_new : (entry_found content top to new ≡ Ok slot') × (inode_found content top slot'.number ≡ Ok r.ended.inode)
    found_new = ended_is content top to new r.ended r.ended_is

    i' : IsFound content top slot'.number r.ended.inode
    i' = found_inode content top slot'.number r.ended.inode found_new.1

    stands' : Stands content top to new slot'.block slot'.offset
    stands' = (stands_found content top to new slot' found_new.0).0

    abbrev fewer : NameEnd
    fewer = name_end memory r.ended

    fit' : AreTimes (times_of r.ended.inode.fields)
    fit' = fit_of T state state' volume kept to new r.ended found_new.0 found_new.1 None

    may : MayEnd T fs node inode top (Replaced fewer) state
    may = (
      i'.number,
      sym i'.block,
      (λ z. i'.there (sym i'.block ∙ z)),
      links_are_changes memory kept.session slot'.number to (times_of r.ended.inode.fields) fit' (nat_le r.ended.inode.fields.links 1) (r.ended.inode.fields.links - 1)
          (short_of T state state' volume kept to new r.ended found_new.0 found_new.1 None),
    )

    abbrev both : Act
    both = patch_act slot.block (one_patch slot.offset (to_le_bytes w32 0) ++ one_patch slot'.offset (to_le_bytes w32 n)) (Some x.block)

    together_replaced : slot'.block ≡ slot.block → Ran T fs (both ∷ naming_ends (Replaced fewer)) state state' (Ok tt) →
        Here state' × (files_then state' ≡ after_ends T fs node inode top (Replaced fewer) (renamed_by (files_then state)))
    together_replaced block_is ran = elim ran [
      | inl none ↦ absurd none
      | inr a ↦
          let edit = edit_is T fs both state a.1 a.0 here.store refl a.2 in
          let same : d ≡ to = (same_bucket node inode top (kinds state fs) content kept.bytes d name slot.block slot.offset stands.0 to stands'.bucket stands'.number stands'.few
          (sym block_is ∙ stands'.block_is)).0 in
          let own = subst (λ y. Stands content top y name slot.block slot.offset) same stands.0 in
          let one = both_set T fs node inode top state a.1 here to name slot.block slot.offset own new n n_short slot'.block slot'.offset stands' block_is (Some x.block) edit in
          let files : files_then a.1 ≡ renamed_by (files_then state) =
          one.1 ∙ ((λ j. with_name (with_name (files_then state) to name None) to new (lead j)) ∙ ap (λ y. with_name (with_name (files_then state) y name None) to new (Some n)) (sym same)) in
          let last = ends_step T fs node inode top (Replaced fewer) a.1 state' one.0 (still_ends T fs node inode top (Replaced fewer) state a.1 one.2 may) a.3 in
          (last.0, last.1 ∙ ap (after_ends T fs node inode top (Replaced fewer)) files)
    ]

    apart_replaced : (first behind : ℕ) → slot'.block ≢ slot.block → links + 1 < 2 ^ 32 →
        Ran T fs (links_act x.block (links + 1) (Some newest_now) parent (Some first) ∷ number_act slot'.block slot'.offset n (Some x.block)
        ∷ number_act slot.block slot.offset 0 (Some behind) ∷ links_act x.block links (Some newest_now) None (Some slot.block) ∷ naming_ends (Replaced fewer)) state state' (Ok tt) →
        Here state' × (files_then state' ≡ after_ends T fs node inode top (Replaced fewer)
        (changed_at (with_name (with_name (changed_at (files_then state) n more_inode) to new (Some n)) d name None) n less_inode))
    apart_replaced first behind unlike short ran = elim ran [
      | inl none ↦ absurd none
      | inr a ↦ elim a.3 [
        | inl none ↦ absurd none
        | inr b ↦
            let fine_more = links_fine (links + 1) newest_now parent short newest_fits parent_short in
            let fine_less = links_fine links newest_now None whole_links newest_fits (λ p none. absurd (cc none)) in
            let edit = edit_is T fs (links_act x.block (links + 1) (Some newest_now) parent (Some first)) state a.1 a.0 here.store refl a.2 in
            let one = links_step T fs node inode top state a.1 here n x.block i.number (sym i.block) x_some (links + 1) (Some newest_now) parent fine_more (Some first) edit in
            let old1 = stands_alike content (readable a.1 fs) top d name slot.block slot.offset stands.0 (one.kept d (λ same. not_d (sym same)) e.number e.there) in
            let new1 = stands_alike content (readable a.1 fs) top to new slot'.block slot'.offset stands' (one.kept to (λ same. not_to (sym same)) stands'.number stands'.there) in
            let edit' = edit_is T fs (number_act slot'.block slot'.offset n (Some x.block)) a.1 b.1 b.0 one.here.store refl b.2 in
            let two = number_step T fs node inode top a.1 b.1 one.here to new slot'.block slot'.offset new1 n n_short (Some x.block) edit' in
            let old2 = two.others d name slot.block slot.offset old1 (λ same. unlike (sym same)) in
            let at_b : now_at b.1 n ≡ x.block = two.numbered n ∙ (one.numbered n ∙ sym i.block) in
            let may' = still_ends T fs node inode top (Replaced fewer) a.1 b.1 two.numbered (still_ends T fs node inode top (Replaced fewer) state a.1 one.numbered may) in
            let last = apart_ends T fs node inode top (Replaced fewer) b.1 state' two.here may' d name slot.block slot.offset old2 n x.block i.number at_b x_some links (Some newest_now) fine_less
            (Some behind) b.3 in
            let files : files_then b.1 ≡ with_name (changed_at (files_then state) n more_inode) to new (Some n) =
            two.files ∙ ((λ j. with_name (files_then a.1) to new (lead j)) ∙ ap (λ f. with_name f to new (Some n)) one.files) in
            (last.0, last.1 ∙ ap (λ f. after_ends T fs node inode top (Replaced fewer) (changed_at (with_name f d name None) n less_inode)) files)
      ]
    ]

  -- What was planned

  abbrev plan_of : Naming → Moving → RenamePlan
  plan_of naming moving = planned_move moved naming moving

  free_so : slot_named content key c new ≡ None → IsFreeName content top to new c
  free_so none = record { found = m.into; found_is = m.there'; block_is = refl; named = (and_parts (is_name name) (is_name new) m.both).1; no_slot = none }

  short_more : (links == 2 ^ 32 - 1) ≡ false → links + 1 < 2 ^ 32
  short_more few = let whole = whole_links in let other : links ≢ 2 ^ 32 - 1 = eqb-false links (2 ^ 32 - 1) few in omega arith

  outside_offset : (naming : Naming) → stands_in naming slot.block ≡ false → old_offset slot naming ≡ slot.offset
  outside_offset (Added (Behind block offset)) outside = refl
  outside_offset (Added (Rewritten old)) outside = ap (λ t. if t then rewritten_offset old slot.offset else slot.offset) outside
  outside_offset (Added (Made made)) outside = refl
  outside_offset (Replaced end) outside = refl

  -- of a plan that begins no block
  none_begun : (acts : List ℕ → List Act) → Does T fs (record { starts = []; acts = acts }) state state' (Ok tt) → Ran T fs (acts []) state state' (Ok tt)
  none_begun acts (inl none) = absurd none
  none_begun acts (inr (begun, middle, begins, ran)) =
      subst (λ bs. Ran T fs (acts bs) state state' (Ok tt)) (same_done begun [] begins.0) (subst (λ s. Ran T fs (acts begun) s state' (Ok tt)) begins.1 ran)

  added_so : (addition : Addition) → slot_named content key c new ≡ None → addition_in state volume.tree to moved.directory new ≡ Ok addition → (moving : Moving) →
      IsMoving state volume d name to new moved m (Added addition) moving → Does T fs (rename_plan new (plan_of (Added addition) moving)) state state' (Ok tt) →
      IsMovedTo (Added addition) moving state'
  added_so (Made made) none found (Together times) linked does = absurd (cc linked.0)
  added_so (Behind block offset) none found (Together times) linked does =
      let a : Addition = Behind block offset in
      let free = free_so none in
      let so = subst (λ y. addition_in state volume.tree to y new ≡ Ok a) m.directory_is found in
      let same : block ≡ slot.block = eqb-true block slot.block linked.0 in
      together_from a free so (placed_in a free so block offset (placed a free so) same) block offset x.block same linked.0 (λ s rest q. q.ready)
      (none_begun (rename_acts (plan_of (Added a) (Together times)) new) does)
  added_so (Rewritten old) none found (Together times) linked does =
      let a : Addition = Rewritten old in
      let free = free_so none in
      let so = subst (λ y. addition_in state volume.tree to y new ≡ Ok a) m.directory_is found in
      let same : old.block ≡ slot.block = eqb-true old.block slot.block linked.0 in
      let is = placed a free so in
      together_from a free so (in_block a free so old.block is.bucket (few_of a free so is.bucket is.candidate) is.block_is same) old.block old.offset x.block same linked.0 (λ s rest q. q.ready)
      (none_begun (rename_acts (plan_of (Added a) (Together times)) new) does)
  added_so addition none found (Apart pair) (outside, few, links_are) does =
      let free = free_so none in
      let so = subst (λ y. addition_in state volume.tree to y new ≡ Ok addition) m.directory_is found in
      elim does [
        | inl none ↦ absurd none
        | inr r ↦
            let b = begun_so T fs node inode top is_open.few is_open.tree (addition_starts addition) [] r.0 state r.1
            (fine_addition T fs node inode top is_open.few is_open.tree kept.bytes.types.0 kept.bytes.some_types is_open.short content key c new addition (placed addition free so)) here r.2 in
            let between = links_between state volume.tree moved to (one_more memory n x) in
            let behind : ℕ = naming_block (Added addition) r.0 in
            let front : List Act = addition_acts addition r.0 (record { number = n; name = new }) x.block in
            let tail : ℕ → List Act = λ o. number_act slot.block o 0 (Some behind) ∷ links_act x.block links (Some newest_now) None (Some slot.block) ∷ [] in
            let more = links_act x.block (links + 1) (Some newest_now) parent (Some between.behind) in
            let acts : rename_acts (plan_of (Added addition) (Apart pair)) new r.0 ≡ rewriting addition ++ (more ∷ (front ++ tail slot.offset)) =
            ap (λ l. rename_acts (plan_of (Added addition) (Apart l)) new r.0) links_are
            ∙ (ap (λ l. rewriting addition ++ (more ∷ l)) (append-nil (front ++ tail (old_offset slot (Added addition))))
            ∙ ap (λ o. rewriting addition ++ (more ∷ (front ++ tail o))) (outside_offset (Added addition) outside)) in
            apart_added addition free so between.behind behind r.0 r.1 b outside (short_more few) (subst (λ l. Ran T fs l r.1 state' (Ok tt)) acts r.3)
      ]

  replaced_so : (end : NameEnd) (r : IsEnded state volume d name to new moved m end) (moving : Moving) → IsMoving state volume d name to new moved m (Replaced end) moving →
      Does T fs (rename_plan new (plan_of (Replaced end) moving)) state state' (Ok tt) → IsMovedTo (Replaced end) moving state'
  replaced_so end r moving linked does = subst (λ y. IsMovedTo (Replaced y) moving state') (sym r.end_is)
      (by moving (subst (λ y. IsMoving state volume d name to new moved m (Replaced y) moving) r.end_is linked)
      (subst (λ y. Does T fs (rename_plan new (plan_of (Replaced y) moving)) state state' (Ok tt)) r.end_is does))
    where
      by : (moving : Moving) → IsMoving state volume d name to new moved m (Replaced (name_end memory r.ended)) moving →
          Does T fs (rename_plan new (plan_of (Replaced (name_end memory r.ended)) moving)) state state' (Ok tt) → IsMovedTo (Replaced (name_end memory r.ended)) moving state'
      by (Together times) linked does =
          together_replaced end r (eqb-true r.ended.slot.block slot.block linked.0) (none_begun (rename_acts (plan_of (Replaced (name_end memory r.ended)) (Together times)) new) does)
      by (Apart pair) (outside, few, links_are) does =
          let between = links_between state volume.tree moved to (one_more memory n x) in
          apart_replaced end r between.behind r.ended.slot.block (eqb-false r.ended.slot.block slot.block outside) (short_more few)
          (none_begun (rename_acts (plan_of (Replaced (name_end memory r.ended)) (Apart between)) new)
          (subst (λ l. Does T fs (rename_plan new (plan_of (Replaced (name_end memory r.ended)) (Apart l))) state state' (Ok tt)) links_are does))

  -- a record in the same block is of the same directory
  pub same_place : (naming : Naming) → IsNaming state volume d name to new moved m naming → stands_in naming moved.old.slot.block ≡ true → d ≡ to
  same_place (Added (Behind block offset)) named inside =
      let a : Addition = Behind block offset in
      let free = free_so named.0 in
      let so = subst (λ y. addition_in state volume.tree to y new ≡ Ok a) m.directory_is named.1 in
      placed_in a free so block offset (placed a free so) (eqb-true block slot.block inside)
  same_place (Added (Rewritten old)) named inside =
      let a : Addition = Rewritten old in
      let free = free_so named.0 in
      let so = subst (λ y. addition_in state volume.tree to y new ≡ Ok a) m.directory_is named.1 in
      let is = placed a free so in
      in_block a free so old.block is.bucket (few_of a free so is.bucket is.candidate) is.block_is (eqb-true old.block slot.block inside)
  same_place (Added (Made made)) named inside = absurd (cc inside)
  same_place (Replaced end) r inside =
      let block_is : r.ended.slot.block ≡ slot.block = sym (ap (λ (y : NameEnd). y.block) r.end_is) ∙ eqb-true end.block slot.block inside in
      (same_bucket node inode top (kinds state fs) content kept.bytes d name slot.block slot.offset stands.0 to (stands' end r).bucket (stands' end r).number (stands' end r).few
      (sym block_is ∙ (stands' end r).block_is)).0

  pub stored : (naming : Naming) → IsNaming state volume d name to new moved m naming → (moving : Moving) → IsMoving state volume d name to new moved m naming moving →
      Does T fs (rename_plan new (planned_move moved naming moving)) state state' (Ok tt) → IsMovedTo naming moving state'
  stored (Added addition) named moving linked does = added_so addition named.0 named.1 moving linked does
  stored (Replaced end) named moving linked does = replaced_so end named moving linked does
