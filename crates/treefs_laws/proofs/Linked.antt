-- An inode gets one more name.
use Rattle.std.proofs.Common.{◌≡◌, ◌≢◌, ℕ, ℤ, ◌+◌, ◌-◌, ◌<◌, ◌≤◌, ◌^◌, Bool, true, false, ◌&&◌, List, [], ◌∷◌, length, Option, None, Some, Result, Ok, Err, refl, sym, ◌∙◌, ap, inl, inr, arith, subst, if◌then◌else◌}
use Rattle.std.specs.Prelude.{All, Contains, ◌==◌}
use Rattle.std.specs.List.{list_all}
use Rattle.std.specs.Option.{ok_or}
use Rattle.std.proofs.lemmas.Bool.{eqb-false, ne_eqb}
use Rattle.std.proofs.lemmas.List.Elements.{All-weaker}
use Rattle.std.proofs.lemmas.Option.{same_Some}
use Rattle.xn_model.specs.Types.{Types}
use Rattle.xn_model.specs.Lives.{StoreState}
use Rattle.treefs_format.specs.Candidates.{candidates, name_hash}
use Rattle.treefs_format.specs.Fields.{fields_of}
use Rattle.treefs_format.specs.Inodes.{kind_of}
use Rattle.treefs_format.specs.Paths.{leaf_count}
use Rattle.treefs_format.specs.declared.fields.Change.{Change}
use Rattle.treefs_format.specs.declared.kind.Kind.{Kind}
use Rattle.treefs_format.specs.declared.kind.Kind.TheVariants as kind
use Rattle.treefs_model.specs.Acts.{Ran, changes_act}
use Rattle.treefs_model.specs.Changes.{linkable, linked, more_links, new_name, touched as touched_inode}
use Rattle.treefs_model.specs.Files.{Files, Inode, and_then, changed_at, found, is_directory, is_orphan, renamed_in, with_name}
use Rattle.treefs_model.specs.Reading.{content_at, files_of, key_in}
use Rattle.treefs_model.specs.declared.fault.Fault.{Fault}
use Rattle.treefs_model.specs.declared.fault.Fault.TheVariants.{Full, IsDir, NoEntry, TooLarge}
use Rattle.treefs_lookup.specs.Inodes.{directory_found, file_found, if_bytes, inode_found}
use Rattle.treefs_lookup.specs.Readable.{readable}
use Rattle.treefs_lookup.specs.declared.inodes.Found.{Found}
use Rattle.treefs_edits.specs.Kinds.{links_act}
use Rattle.treefs_edits.specs.Memories.{Memory, newest_times, touched_times, with_touched, without_touched}
use Rattle.treefs_edits.specs.Plans.{Does, DoesPlanned}
use Rattle.treefs_edits.specs.Rooms.{has_room, has_room_in}
use Rattle.treefs_edits.specs.declared.memory.Touched.{Touched}
use Rattle.treefs_edits.specs.declared.times.Times.{Times}
use Rattle.treefs_edits.specs.declared.tree.Tree.{Tree}
use Rattle.treefs_name_plans.specs.Additions.{addition_acts, addition_starts}
use Rattle.treefs_name_plans.specs.Ends.{times_of}
use Rattle.treefs_name_plans.specs.LinkPlans.{holder_of, if_linked, link_acts, link_in_room, link_plan, link_planned, linkable as plan_linkable, more_links as plan_more, one_more}
use Rattle.treefs_name_plans.specs.NewNames.{addition_in, addition_parts, free_name}
use Rattle.treefs_name_plans.specs.declared.addition.Addition.{Addition}
use Rattle.treefs_name_plans.specs.declared.link_change.LinkChange.{LinkChange}
use Rattle.treefs_name_plans.specs.declared.link_plan.LinkPlan.{LinkPlan}
use Rattle.treefs.specs.Linking.{LinkDoes, linked_memory, linked_volume}
use Rattle.treefs.specs.Remembered.{now_times}
use Rattle.treefs.specs.Unlinking.{as_plan}
use Rattle.treefs.specs.declared.volume.Volume.{Volume}
use Rattle.treefs_values.specs.Kinds.{kinds}
use Rattle.treefs_values.specs.Values.{AreChanges, found_value, inode_with_links, led_to, links_parts}
use Rattle.treefs_values.specs.Ways.{block_numbered}
use Rattle.treefs_values.proofs.ForCallers.{AreBegun, AreNew, AreOf, IsAt, IsDirectoryAt, IsEdit, IsFound, New, begun_so, blocks_in, candidates_few, directory_kept, directory_stays, edit_is, fields_files, fields_here, fields_inode, fields_keep, fields_key, found_inode, inodes_found, links_make, new_kept, same_size}
use Rattle.treefs_laws.specs.Kept.{IsKept, files_in}
use Rattle.treefs_laws.specs.Open.{IsOpen}
use Rattle.treefs_laws.specs.Seen.{AreTimes, AreTouchedOnce, IsSession, seen_files, seen_inode, times_in}
use Rattle.treefs_laws.proofs.Begun.{fine_addition}
use Rattle.treefs_laws.proofs.InDirectory.{directory_here, is_directory_at, is_new_name, name_long, number_few, seen_directory}
use Rattle.treefs_laws.proofs.InRange.{time_fits, word_fits}
use Rattle.treefs_laws.proofs.Named.{IsPrepared, addition_made, prepared_so, ready_stays}
use Rattle.treefs_laws.proofs.NamesEnd.{links_are_changes}
use Rattle.treefs_laws.proofs.NewPlanned.{IsAddition, IsFreeName, addition_is, free_so}
use Rattle.treefs_laws.proofs.Planned.{same_done, then_ok}
use Rattle.treefs_laws.proofs.Seeing.{found_seen, seen_changed, seen_named, seen_touched}
use Rattle.treefs_laws.proofs.There.{changed_there}
use Rattle.treefs_laws.proofs.Touching.{all_touched, all_written_out, once_touched, once_written, others_written, written_now}

-- What was planned

module _ (state : StoreState) (tree : Tree) (memory : Memory) (n d : ℕ) (name : List ℕ) where
  abbrev contents : ℕ → List ℕ
  contents = readable state tree.fs.number

  abbrev plan_of : ℕ → Found → Addition → LinkPlan
  plan_of directory inode addition = record {
    number = n;
    holder = holder_of contents tree.top n;
    more = one_more memory n inode;
    directory = directory;
    addition = addition;
  }

  pub record IsLinkPlan (plan : LinkPlan) : Type 0 where
    pub directory : ℕ
    pub free : IsFreeName contents tree.top d name directory
    pub inode : Found
    pub inode_is : inode_found contents tree.top n ≡ Ok inode
    pub no_directory : inode.kind ≢ kind.Directory
    pub linked_so : (inode.fields.links == 0) ≡ false
    pub few : (inode.fields.links == 2 ^ 32 - 1) ≡ false
    pub addition : Addition
    pub addition_found : addition_in state tree d directory name ≡ Ok addition
    pub plan_is : plan ≡ plan_of directory inode addition

  of_bytes : (x y : Found) (k : Kind) → x.kind ≡ k → if_bytes x k ≡ Ok y → (x ≡ y) × (x.kind ≢ kind.Directory)
  of_bytes x y kind.Directory is e = absurd (cc e)
  of_bytes x y kind.File is e = (same_done x y e, λ z. absurd (cc (sym is ∙ z)))
  of_bytes x y kind.SymbolicLink is e = (same_done x y e, λ z. absurd (cc (sym is ∙ z)))

  pub link_planned_so : (plan : LinkPlan) → link_planned state tree memory n d name ≡ Ok plan → IsLinkPlan plan
  link_planned_so plan is =
      let rest4 = λ (inode : Found) (directory : ℕ) (addition : Addition). and_then (plan_more memory n inode) (link_in_room state tree memory n directory addition) in
      let rest3 = λ (inode : Found) (directory : ℕ). and_then (addition_in state tree d directory name) (rest4 inode directory) in
      let rest2 = λ (inode : Found). and_then (free_name contents tree.top d name) (rest3 inode) in
      let one = then_ok (directory_found contents tree.top d) (λ (x : Found). and_then (plan_linkable contents tree.top n) rest2) plan is in
      let two = then_ok (plan_linkable contents tree.top n) rest2 plan one.2 in
      let three = then_ok (free_name contents tree.top d name) (rest3 two.0) plan two.2 in
      let four = then_ok (addition_in state tree d three.0 name) (rest4 two.0 three.0) plan three.2 in
      let five = then_ok (plan_more memory n two.0) (link_in_room state tree memory n three.0 four.0) plan four.2 in
      let file = then_ok (file_found contents tree.top n) if_linked two.0 two.1 in
      let inode = then_ok (inode_found contents tree.top n) (λ (x : Found). if_bytes x x.kind) file.0 file.1 in
      let kind_so = of_bytes inode.0 file.0 inode.0.kind refl inode.2 in
      let links_so = linked_of file.0 two.0 (file.0.fields.links == 0) refl file.2 in
      let more = more_of two.0 five.0 (two.0.fields.links == 2 ^ 32 - 1) refl five.1 in
      record {
        directory = three.0;
        free = free_so contents tree.top d name three.0 three.1;
        inode = two.0;
        inode_is = inode.1 ∙ ap Ok (kind_so.0 ∙ links_so.0);
        no_directory = λ z. kind_so.1 (ap (λ (x : Found). x.kind) (kind_so.0 ∙ links_so.0) ∙ z);
        linked_so = ap (λ (x : Found). x.fields.links == 0) (sym links_so.0) ∙ links_so.1;
        few = more.1;
        addition = four.0;
        addition_found = four.1;
        plan_is = in_room three.0 four.0 two.0 five.0 more.0
            (has_room state tree.fs.number (length memory.touched) 20 (addition_parts four.0 three.0) && list_all (has_room_in state) ((five.0.block, 2) ∷ [])) five.2;
      }
    where
      linked_of : (x y : Found) (t : Bool) → (x.fields.links == 0) ≡ t → ◌≡◌ {A = Result Found Fault} (if x.fields.links == 0 then Err NoEntry else Ok x) (Ok y) →
          (x ≡ y) × ((x.fields.links == 0) ≡ false)
      linked_of x y true h e = absurd (cc (sym (ap (λ t. if t then Err NoEntry else Ok x) h) ∙ e))
      linked_of x y false h e = (same_done x y (sym (ap (λ t. if t then Err NoEntry else Ok x) h) ∙ e), h)

      more_of : (x : Found) (m : LinkChange) (t : Bool) → (x.fields.links == 2 ^ 32 - 1) ≡ t →
          ◌≡◌ {A = Result LinkChange Fault} (if x.fields.links == 2 ^ 32 - 1 then Err TooLarge else Ok (one_more memory n x)) (Ok m) →
          (m ≡ one_more memory n x) × ((x.fields.links == 2 ^ 32 - 1) ≡ false)
      more_of x m true h e = absurd (cc (sym (ap (λ t. if t then Err TooLarge else Ok (one_more memory n x)) h) ∙ e))
      more_of x m false h e = (sym (same_done (one_more memory n x) m (sym (ap (λ t. if t then Err TooLarge else Ok (one_more memory n x)) h) ∙ e)), h)

      in_room : (directory : ℕ) (addition : Addition) (x : Found) (m : LinkChange) → m ≡ one_more memory n x → (t : Bool) →
          ◌≡◌ {A = Result LinkPlan Fault} (if t then Ok (record {
            number = n;
            holder = holder_of contents tree.top n;
            more = m;
            directory = directory;
            addition = addition;
          }) else Err Full) (Ok plan) → plan ≡ plan_of directory x addition
      in_room directory addition x m is true e =
          let built : LinkPlan = record { number = n; holder = holder_of contents tree.top n; more = m; directory = directory; addition = addition } in
          sym (same_done built plan e)
          ∙ ap (λ (m : LinkChange). record { number = n; holder = holder_of contents tree.top n; more = m; directory = directory; addition = addition }) is
      in_room directory addition x m is false e = absurd (cc e)

-- What links say then

more_seen : (touched : List Touched) (clock : ℤ) (n : ℕ) → AreTouchedOnce touched → (x : Inode) (links : ℕ) (times : Times) → x.links ≡ links → times_in x ≡ times →
    seen_inode (without_touched touched n) n (inode_with_links (links + 1) (Some (record { mtime = (touched_times touched n times).mtime; ctime = clock })) None x)
    ≡ more_links clock (seen_inode touched n x)
more_seen touched clock n once x links times same_links same_times =
    let newest : Times = record { mtime = (touched_times touched n times).mtime; ctime = clock } in
    ap (λ (t : Times). record x { links = links + 1; mtime = t.mtime; ctime = t.ctime }) (written_now n newest newest touched once)
    ∙ (ap (λ (t : Times). record x { links = links + 1; mtime = (touched_times touched n t).mtime; ctime = clock }) (sym same_times)
    ∙ ap (λ k. record x { links = k + 1; mtime = (touched_times touched n (times_in x)).mtime; ctime = clock }) (sym same_links))

not_directory : (content : ℕ → List ℕ) (key : List ℕ) (block parent : ℕ) (k : Kind) → k ≢ kind.Directory → is_directory (content_at content key block parent k) ≡ false
not_directory content key block parent kind.Directory ne = absurd (ne refl)
not_directory content key block parent kind.File ne = refl
not_directory content key block parent kind.SymbolicLink ne = refl

module _ (T : Types) (state state' : StoreState) (volume : Volume) (n d : ℕ) (name : List ℕ) (is_open : IsOpen T state volume) (wide : All (λ b. b < 256) name)
    (plan : LinkPlan) (p : IsLinkPlan state volume.tree volume.memory n d name plan) where
  abbrev fs : ℕ
  fs = volume.tree.fs.number

  abbrev top : ℕ
  top = volume.tree.top

  abbrev node : ℕ
  node = volume.tree.node_type

  abbrev inode : ℕ
  inode = volume.tree.inode_type

  abbrev content : ℕ → List ℕ
  content = readable state fs

  abbrev key : List ℕ
  key = key_in content top

  abbrev c : ℕ
  c = p.directory

  abbrev memory : Memory
  memory = volume.memory

  kept : IsKept T state volume
  kept = is_open.kept

  dir : IsDirectoryAt content top d c key
  dir = directory_here T state volume d name kept c p.free

  few_of : (j : ℕ) → Contains (candidates (name_hash key name)) j → j ≤ leaf_count
  few_of j has = candidates_few (name_hash key name) j has

  placed : IsAddition content key node c name p.addition
  placed = addition_is state volume.tree d c name dir.there few_of p.free p.addition p.addition_found

  -- the inode

  is : IsFound content top n p.inode
  is = found_inode content top n p.inode p.inode_is

  abbrev c_n : ℕ
  c_n = block_numbered content top n

  bytes : All (λ b. b < 256) (content c_n)
  bytes = (kept.bytes.blocks c_n (λ z. kept.bytes.some_types.1 (sym (kept.bytes.typed.inodes n is.there) ∙ z))).1

  fit : AreTimes (times_of p.inode.fields)
  fit = subst (λ f. AreTimes (times_of f)) (sym is.fields) (time_fits (content c_n) bytes 24, time_fits (content c_n) bytes 32)

  abbrev links : ℕ
  links = p.inode.fields.links

  short : links + 1 < 2 ^ 32
  short =
      let whole : links < 2 ^ 32 = subst (λ f. f.links < 2 ^ 32) (sym is.fields) (word_fits (content c_n) bytes 4) in
      let other : links ≢ 2 ^ 32 - 1 = eqb-false links (2 ^ 32 - 1) p.few in
      omega arith

  abbrev newest : Option Times
  newest = Some (newest_times memory n (times_of p.inode.fields))

  abbrev changes : List (List Change)
  changes = links_parts (links + 1) newest None

  fine : All AreChanges changes
  fine = links_are_changes memory kept.session n d (times_of p.inode.fields) fit false (links + 1) short

  apart : n ≢ d
  apart same =
      let n_kind = is.kind in
      p.no_directory (same_Some p.inode.kind kind.Directory (sym n_kind ∙ (ap (λ m. kind_of (fields_of (content (block_numbered content top m))).mode) same
      ∙ (ap (λ b. kind_of (fields_of (content b)).mode) dir.block ∙ dir.directory))))

  n_short : n < 2 ^ 32
  n_short = number_few content top n is.number is.there

  abbrev change : Inode → Inode
  change = inode_with_links (links + 1) newest None

  -- the store

  abbrev IsDone : StoreState → Type 0
  IsDone s = IsAt T fs node inode top s
      × (files_of (readable s fs) top ≡ with_name (changed_at (files_of content top) n change) d name (led_to n))

  here : IsAt T fs node inode top state
  here = record { store = kept.store; root = is_open.root; volume = kept.bytes }

  linked_then : (b0 : StoreState) (zs : List New) (q : IsPrepared T fs node inode top is_open.few is_open.tree state d c key name p.free.named wide (name_long name p.free.named) few_of n n_short
      p.addition (links_act p.inode.block (links + 1) newest None (Some (holder_of content top n)) ∷ addition_acts p.addition (blocks_in zs) (record { number = n; name = name }) p.inode.block) b0 state') →
      (block_numbered (readable q.middle fs) top n ≡ c_n) → (fields_of (readable q.middle fs c_n) ≡ p.inode.fields) →
      (files_of (readable b0 fs) top ≡ files_of content top) →
      AreOf T fs node inode top is_open.few is_open.tree (addition_starts p.addition) zs → AreNew node inode (kinds b0 fs) (readable b0 fs) top zs → IsDone state'
  linked_then b0 zs q block_same fields_same files_same of news = elim q.ran [
    | inl none ↦ absurd none
    | inr r ↦
        let m = q.middle in
        let s2 = r.1 in
        let act_is : links_act p.inode.block (links + 1) newest None (Some (holder_of content top n))
        ≡ changes_act (block_numbered (readable m fs) top n) changes (Some (holder_of content top n)) =
        ap (λ b. changes_act b changes (Some (holder_of content top n))) (is.block ∙ sym block_same) in
        let edit = subst (λ a. IsEdit T fs a m s2) act_is
        (edit_is T fs (links_act p.inode.block (links + 1) newest None (Some (holder_of content top n))) m s2 r.0 q.prepared.store refl r.2) in
        let there : block_numbered (readable m fs) top n ≢ 0 = λ z. is.there (sym block_same ∙ z) in
        let was = fields_of (readable m fs (block_numbered (readable m fs) top n)) in
        let sizes = same_size was (links + 1) newest None in
        let makes = links_make was (links + 1) newest None in
        let done_here = fields_here T fs node inode top m s2 q.prepared n is.number there changes fine (Some (holder_of content top n)) edit sizes.0 sizes.1 change makes in
        let done_files = fields_files T fs node inode top m s2 q.prepared n is.number there changes fine (Some (holder_of content top n)) edit sizes.0 sizes.1 change makes in
        let d_kept = fields_inode T fs node inode top m s2 q.prepared n is.number there changes fine (Some (holder_of content top n)) edit d (λ e. apart (sym e)) q.dir.number
        (λ z. q.dir.there (sym q.dir.block ∙ z)) in
        let key_kept = fields_key T fs node inode top m s2 q.prepared n is.number there changes fine (Some (holder_of content top n)) edit in
        let stays = directory_kept (readable m fs) (readable s2 fs) top d c key key_kept d_kept q.dir in
        let ready = ready_stays T fs node inode top is_open.few is_open.tree state d c key name p.free.named wide (name_long name p.free.named) few_of n n_short m s2 stays.1 stays.2 p.addition q.ready in
        let zs_new = new_kept node inode top (kinds b0 fs) (kinds s2 fs) (readable b0 fs) (readable s2 fs) (λ x. Unit {0}) zs (λ i e lt. tt)
        (λ x any x_new. fields_keep T fs node inode top m s2 q.prepared n is.number there changes fine (Some (holder_of content top n)) edit x (q.keeps x x_new)) news in
        let done = addition_made T fs node inode top is_open.few is_open.tree state d c key name p.free.named wide (name_long name p.free.named) few_of n n_short p.addition s2 state'
        p.inode.block zs done_here stays.0 ready of zs_new r.3 in
        (done.0, done.1 ∙ ap (λ f. with_name f d name (led_to n)) (done_files ∙ ap (λ f. changed_at f n change) (q.files ∙ files_same)))
  ]

  linked_begun : (begun : List ℕ) (b0 : StoreState) (b : AreBegun T fs node inode top is_open.few is_open.tree (addition_starts p.addition) [] begun state b0) →
      Ran T fs (link_acts (plan_of state volume.tree memory n d name c p.inode p.addition) name begun) b0 state' (Ok tt) → IsDone state'
  linked_begun begun b0 b ran =
      let zs : List New = b.made in
      let ran' = subst (λ bs. Ran T fs (link_acts (plan_of state volume.tree memory n d name c p.inode p.addition) name bs) b0 state' (Ok tt)) b.blocks_are ran in
      let stays = directory_stays content (readable b0 fs) top d c key b.inodes dir in
      let q = prepared_so T fs node inode top is_open.few is_open.tree state d c key name p.free.named wide (name_long name p.free.named) few_of n n_short p.addition
      (links_act p.inode.block (links + 1) newest None (Some (holder_of content top n)) ∷ addition_acts p.addition (blocks_in zs) (record { number = n; name = name }) p.inode.block)
      b0 state' b.at stays.0 (record { alike = stays.1; ways = stays.2 }) placed ran' in
      let first = b.inodes.inodes n is.number is.there in
      let second = q.inodes n apart is.number (λ z. is.there (sym first.block ∙ z)) in
      let same_block : block_numbered (readable q.middle fs) top n ≡ c_n = second.block ∙ first.block in
      let own : readable q.middle fs c_n ≡ content c_n = subst (λ x. readable q.middle fs x ≡ readable b0 fs x) first.block second.alike.own ∙ first.alike.own in
      linked_then b0 zs q same_block (ap fields_of own ∙ sym is.fields) b.files b.of b.news

  carried : Does T fs (link_plan name (plan_of state volume.tree memory n d name c p.inode p.addition)) state state' (Ok tt) → IsDone state'
  carried does = elim does [
    | inl none ↦ absurd none
    | inr r ↦
        linked_begun r.0 r.1 (begun_so T fs node inode top is_open.few is_open.tree (addition_starts p.addition) [] r.0 state r.1
        (fine_addition T fs node inode top is_open.few is_open.tree kept.bytes.types.0 kept.bytes.some_types is_open.short content key c name p.addition placed) here r.2) r.3
  ]

  -- The volume

  abbrev touched : List Touched
  touched = memory.touched

  abbrev left : List Touched
  left = without_touched touched n

  abbrev now : List Touched
  now = with_touched left d (now_times memory)

  abbrev files : Files
  files = files_of content top

  abbrev value : Inode
  value = found_value content top p.inode

  value_found : found files n ≡ Ok value
  value_found = sym (inodes_found content top n) ∙ ap (λ r. and_then r (λ x. Ok (found_value content top x))) p.inode_is

  seen_found : found (files_in state volume) n ≡ Ok (seen_inode touched n value)
  seen_found = found_seen touched files n value value_found

  changed_so : (x : Inode) → files n ≡ Some x → seen_inode left n (change x) ≡ more_links memory.clock (seen_inode touched n x)
  changed_so x there =
      let same : value ≡ x = same_done value x (sym value_found ∙ ap (λ o. ok_or o NoEntry) there) in
      subst (λ x. seen_inode left n (change x) ≡ more_links memory.clock (seen_inode touched n x)) same
      (more_seen touched memory.clock n kept.session.once value links (times_of p.inode.fields) refl refl)

  lead : led_to n ≡ Some n
  lead = ap (λ t. if t then None else Some n) (ne_eqb n 0 is.number)

  module _ (word : ℕ) (done : IsDone state') where
    abbrev later : Volume
    later = record volume { memory = record memory { touched = now; last_link = word } }

    files_so : files_in state' later
        ≡ changed_at (with_name (changed_at (files_in state volume) n (more_links memory.clock)) d name (Some n)) d (touched_inode memory.clock)
    files_so =
        ap (seen_files now) (done.1 ∙ ap (with_name (changed_at files n change) d name) lead)
        ∙ (seen_touched left (with_name (changed_at files n change) d name (Some n)) d (now_times memory)
        ∙ ap (λ f. changed_at f d (touched_inode memory.clock))
        (seen_named left (changed_at files n change) d name (Some n)
        ∙ ap (λ f. with_name f d name (Some n))
        (seen_changed touched left files n change (more_links memory.clock) (λ m t ne. others_written n t t m ne touched) changed_so)))

    session : IsSession later.memory
    session = record {
      once = once_touched d (now_times memory) left (once_written n touched kept.session.once);
      clock = kept.session.clock;
      times = all_touched (λ touch. AreTimes touch.times) d (now_times memory) (kept.session.clock, kept.session.clock) left
          (all_written_out (λ touch. AreTimes touch.times) n touched kept.session.times);
    }

    still_there : (m : ℕ) → files_in state volume m ≢ None → files_in state' later m ≢ None
    still_there m some none =
        changed_there (with_name (changed_at (files_in state volume) n (more_links memory.clock)) d name (Some n)) d (touched_inode memory.clock) m
        (changed_there (changed_at (files_in state volume) n (more_links memory.clock)) d (renamed_in name (Some n)) m
        (changed_there (files_in state volume) n (more_links memory.clock) m some)) (ap (λ f. f m) (sym files_so) ∙ none)

    still_open : IsOpen T state' later
    still_open = record {
      kept = record { store = done.0.store; bytes = done.0.volume; session = session };
      few = is_open.few;
      tree = is_open.tree;
      short = is_open.short;
      root = done.0.root;
      touched = all_touched (λ touch. files_in state' later touch.number ≢ None) d (now_times memory)
          (still_there d (λ none. absurd (cc (sym (seen_directory T state volume d name kept c p.free).1 ∙ none)))) left
          (all_written_out (λ touch. files_in state' later touch.number ≢ None) n touched
          (All-weaker (λ (touch : Touched). files_in state volume touch.number ≢ None) (λ touch. files_in state' later touch.number ≢ None)
          (λ touch some. still_there touch.number some) touched is_open.touched));
    }

    may_link : linkable (seen_inode touched n value) ≡ Ok tt
    may_link =
        ap (λ t. if t then Err IsDir else if is_orphan (seen_inode touched n value) then Err NoEntry else Ok (tt {0}))
        (not_directory content key p.inode.block p.inode.fields.parent p.inode.kind p.no_directory)
        ∙ ap (λ t. if t then Err NoEntry else Ok (tt {0})) p.linked_so

    linked_files : linked (files_in state volume) memory.clock n d name ≡ Ok (files_in state' later)
    linked_files =
        ap (λ r. and_then r (λ x. and_then (found (files_in state volume) n) (λ i. and_then (linkable i) (λ fine. and_then (new_name (files_in state volume) d name) (λ new. Ok after)))))
        (is_directory_at T state volume d name kept c p.free).1
        ∙ (ap (λ r. and_then r (λ i. and_then (linkable i) (λ fine. and_then (new_name (files_in state volume) d name) (λ new. Ok after)))) seen_found
        ∙ (ap (λ r. and_then r (λ fine. and_then (new_name (files_in state volume) d name) (λ new. Ok after))) may_link
        ∙ (ap (λ r. and_then r (λ new. Ok after)) (is_new_name T state volume d name kept c p.free) ∙ ap Ok (sym files_so))))
      where
        after : Files
        after = changed_at (with_name (changed_at (files_in state volume) n (more_links memory.clock)) d name (Some n)) d (touched_inode memory.clock)

    pub said : IsOpen T state' later × (linked (files_in state volume) memory.clock n d name ≡ Ok (files_in state' later))
    said = (still_open, linked_files)

pub linked_so : (T : Types) (state state' : StoreState) (volume volume' : Volume) (n d : ℕ) (name : List ℕ) → IsOpen T state volume → All (λ b. b < 256) name →
    LinkDoes T state state' volume volume' n d name (Ok tt) →
    IsOpen T state' volume' × (linked (files_in state volume) volume.memory.clock n d name ≡ Ok (files_in state' volume'))
linked_so T state state' volume volume' n d name is_open wide (does, is) =
    by (link_planned state volume.tree volume.memory n d name) refl does is
  where
    by : (r : Result LinkPlan Fault) → link_planned state volume.tree volume.memory n d name ≡ r →
        DoesPlanned T volume.tree.fs.number (as_plan (link_plan name) r) state state' (Ok tt) → volume' ≡ linked_volume state' volume d r (Ok tt) →
        IsOpen T state' volume' × (linked (files_in state volume) volume.memory.clock n d name ≡ Ok (files_in state' volume'))
    by (Err fault) planned does is = absurd does
    by (Ok plan) planned does is =
        let p = link_planned_so state volume.tree volume.memory n d name plan planned in
        let does' = subst (λ x. Does T volume.tree.fs.number (link_plan name x) state state' (Ok tt)) p.plan_is does in
        let number_same : plan.number ≡ n = ap (λ (x : LinkPlan). x.number) p.plan_is in
        let word : ℕ = (linked_memory state' volume.tree.fs.number volume.memory d plan).last_link in
        let whole = said T state state' volume n d name is_open wide plan p word (carried T state state' volume n d name is_open wide plan p does') in
        subst (λ v. IsOpen T state' v × (linked (files_in state volume) volume.memory.clock n d name ≡ Ok (files_in state' v)))
        (sym (is ∙ ap (λ k. record volume { memory = record volume.memory { touched = with_touched (without_touched volume.memory.touched k) d (now_times volume.memory); last_link = word } }) number_same))
        whole
