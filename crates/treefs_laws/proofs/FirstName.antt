-- A number gets an inode, and that its first name, by the edits that were planned for it: what that makes of an open volume.
use Rattle.std.proofs.Common.{◌≡◌, ◌≢◌, ℕ, ℤ, suc, ◌-◌, ◌<◌, ◌≤◌, ◌^◌, List, [], ◌∷◌, ◌++◌, length, take, drop, None, Some, Ok, refl, sym, ◌∙◌, ap, inl, inr, arith, subst, if◌then◌else◌}
use Rattle.std.specs.Prelude.{All, Contains, option_map}
use Rattle.std.proofs.lemmas.Bool.{cases_eq, eq-eqb, ne_eqb}
use Rattle.std.proofs.lemmas.List.{drop_at, length-map, map-append, take_at}
use Rattle.std.proofs.lemmas.List.Elements.{All-append, All-weaker}
use Rattle.xn_model.specs.Types.{Types}
use Rattle.xn_model.specs.Lives.{StoreState}
use Rattle.treefs_format.specs.Candidates.{candidates, name_hash}
use Rattle.treefs_format.specs.Paths.{leaf_count}
use Rattle.treefs_model.specs.Acts.{Ran}
use Rattle.treefs_model.specs.Changes.{made, touched as touched_inode}
use Rattle.treefs_model.specs.Files.{Files, Inode, changed_at, renamed_in, with_inode, with_name}
use Rattle.treefs_model.specs.Reading.{files_of, key_in}
use Rattle.treefs_lookup.specs.Numbers.{IsNextNumber}
use Rattle.treefs_lookup.specs.Readable.{readable}
use Rattle.treefs_edits.specs.Memories.{with_touched}
use Rattle.treefs_edits.specs.Missing.{node_starts}
use Rattle.treefs_edits.specs.declared.memory.Touched.{Touched}
use Rattle.treefs_edits.specs.declared.start.Start.{Start}
use Rattle.treefs_edits.specs.declared.times.Times.{Times}
use Rattle.treefs_name_plans.specs.Additions.{addition_starts}
use Rattle.treefs_name_plans.specs.CommitPlans.{commit_acts, commit_acts_of, table_nodes}
use Rattle.treefs_name_plans.specs.NewNames.{addition_in}
use Rattle.treefs_name_plans.specs.declared.addition.Addition.{Addition}
use Rattle.treefs_name_plans.specs.declared.commit_plan.CommitPlan.{CommitPlan}
use Rattle.treefs.specs.Committing.{committed_memory}
use Rattle.treefs.specs.Remembered.{now_times}
use Rattle.treefs.specs.declared.volume.Volume.{Volume}
use Rattle.treefs_values.specs.Kinds.{kinds}
use Rattle.treefs_values.specs.Values.{led_to}
use Rattle.treefs_values.proofs.ForCallers.{AreBegun, AreNew, AreOf, IsAt, IsDirectoryAt, IsFineStart, IsRead, IsSince, IsTold, New, blocks_in, candidates_few, directory_stays, of_long, of_parts}
use Rattle.treefs_laws.specs.Kept.{IsKept, files_in}
use Rattle.treefs_laws.specs.Making.{MakesInode}
use Rattle.treefs_laws.specs.Open.{IsOpen}
use Rattle.treefs_laws.specs.Seen.{AreTimes, IsSession, seen_files, seen_inode}
use Rattle.treefs_laws.proofs.Begun.{fine_addition, fine_nodes}
use Rattle.treefs_laws.proofs.InDirectory.{directory_here, is_new_name, name_long, seen_directory}
use Rattle.treefs_laws.proofs.Named.{first_named}
use Rattle.treefs_laws.proofs.NewPlanned.{IsAddition, IsFreeName, addition_is, commit_of}
use Rattle.treefs_laws.proofs.Seeing.{seen_named, seen_touched}
use Rattle.treefs_laws.proofs.There.{changed_there, with_there}
use Rattle.treefs_laws.proofs.Touching.{all_touched, not_there, once_touched}

-- Files with one inode more

module _ (touched : List Touched) (files : Files) (n : ℕ) (inode : Inode) (lacks : All (λ touch. touch.number ≢ n) touched) where
  pub seen_with : seen_files touched (with_inode files n (Some inode)) ≡ with_inode (seen_files touched files) n (Some inode)
  unfolding seen_files
  seen_with = λ j m. at m j
    where
      same : seen_inode touched n inode ≡ inode
      same = ap (λ (t : Times). record inode { mtime = t.mtime; ctime = t.ctime }) (not_there n (record { mtime = inode.mtime; ctime = inode.ctime }) (record { mtime = inode.mtime; ctime = inode.ctime }) touched lacks)

      at : (m : ℕ) → seen_files touched (with_inode files n (Some inode)) m ≡ with_inode (seen_files touched files) n (Some inode) m
      at m = elim (cases_eq m n) [
        | inl is ↦
            ap (λ t. option_map (seen_inode touched m) (if t then Some inode else files m)) (eq-eqb m n is)
            ∙ (ap (λ k. Some (seen_inode touched k inode)) is ∙ (ap Some same
            ∙ sym (ap (λ t. if t then Some inode else option_map (seen_inode touched m) (files m)) (eq-eqb m n is))))
        | inr ne ↦
            ap (λ t. option_map (seen_inode touched m) (if t then Some inode else files m)) (ne_eqb m n ne)
            ∙ sym (ap (λ t. if t then Some inode else option_map (seen_inode touched m) (files m)) (ne_eqb m n ne))
      ]

pub made_there : (files : Files) (time : ℤ) (d : ℕ) (name : List ℕ) (n : ℕ) (inode : Inode) (m : ℕ) → files m ≢ None → made files time d name n inode m ≢ None
made_there files time d name n inode m there =
    changed_there (with_name (with_inode files n (Some inode)) d name (Some n)) d (touched_inode time) m
    (changed_there (with_inode files n (Some inode)) d (renamed_in name (Some n)) m (with_there files n inode m there))

pub nodes_long : (node last : ℕ) (os : List ℕ) → length (node_starts node last os) ≡ length os
nodes_long node last [] = refl
nodes_long node last (o ∷ os) = ap suc (nodes_long node last os)

module _ (T : Types) (state state' : StoreState) (volume : Volume) (d : ℕ) (name : List ℕ) (is_open : IsOpen T state volume)
    (wide : All (λ b. b < 256) name) (value : Inode) (bytes : List ℕ) (n c : ℕ) (free : IsFreeName (readable state volume.tree.fs.number) volume.tree.top d name c)
    (next : IsNextNumber state volume.tree.fs.number volume.tree.top volume.memory.hint n) (addition : Addition)
    (addition_found : addition_in state volume.tree d c name ≡ Ok addition) where
  abbrev fs : ℕ
  fs = volume.tree.fs.number

  abbrev top : ℕ
  top = volume.tree.top

  abbrev node : ℕ
  node = volume.tree.node_type

  abbrev inode : ℕ
  inode = volume.tree.inode_type

  abbrev content : ℕ → List ℕ
  content = readable state fs

  abbrev key : List ℕ
  key = key_in content top

  kept : IsKept T state volume
  kept = is_open.kept

  dir : IsDirectoryAt content top d c key
  dir = directory_here T state volume d name kept c free

  c_some : c ≢ 0
  c_some = dir.there

  few_of : (j : ℕ) → Contains (candidates (name_hash key name)) j → j ≤ leaf_count
  few_of j has = candidates_few (name_hash key name) j has

  placed : IsAddition content key node c name addition
  placed = addition_is state volume.tree d c name c_some few_of free addition addition_found

  n_some : n ≢ 0
  n_some z = let low = next.some in absurd (omega (arith, z))

  n_short : n < 2 ^ 32
  n_short = let high = next.few in omega arith

  n_within : n - 1 < leaf_count
  n_within = let low = next.some in let high = next.few in omega arith

  abbrev commit : CommitPlan
  commit = commit_of state volume.tree volume.memory d name n c addition

  abbrev pub starts : List Start
  starts = node_starts node inode (table_nodes commit) ++ addition_starts addition

  abbrev Fine : Start → Type 0
  Fine = IsFineStart T fs node inode top is_open.few is_open.tree

  pub fine : All Fine starts
  fine = All-append Fine (node_starts node inode (table_nodes commit)) (addition_starts addition)
      (fine_nodes T fs node inode top is_open.few is_open.tree kept.bytes.types.0 kept.bytes.some_types is_open.short (table_nodes commit))
      (fine_addition T fs node inode top is_open.few is_open.tree kept.bytes.types.0 kept.bytes.some_types is_open.short content key c name addition placed)

  abbrev pub IsDone : StoreState → Type 0
  IsDone s = IsAt T fs node inode top s × (files_of content top n ≡ None)
      × (files_of (readable s fs) top ≡ with_name (with_inode (files_of content top) n (Some value)) d name (led_to n))

  -- blocks are begun; y: that of the inode, of which what is told stays so, and is enough
  module _ (all : List Start) (begun : List ℕ) (b0 : StoreState) (b : AreBegun T fs node inode top is_open.few is_open.tree all [] begun state b0) (y : ℕ)
      (Tells : StoreState → Type 0)
      (tells : (xs : List New) (s s' : StoreState) → IsSince T fs node inode top xs s s' → AreNew node inode (kinds s fs) (readable s fs) top xs →
      All (λ x. x.block ≢ y) xs → Tells s → Tells s')
      (told : (s : StoreState) → IsAt T fs node inode top s → Tells s → (h : ℕ) → IsRead (readable s fs) top h →
      IsTold node inode (kinds s fs) (readable s fs) top h y value) where
    pub first_begun : (ys : List New) → AreOf T fs node inode top is_open.few is_open.tree starts ys → AreNew node inode (kinds b0 fs) (readable b0 fs) top ys →
        All (λ x. x.block ≢ y) ys → Tells b0 → Ran T fs (commit_acts commit name y (blocks_in ys)) b0 state' (Ok tt) → IsDone state'
    first_begun ys of news others first ran =
        let parts = of_parts T fs node inode top is_open.few is_open.tree (node_starts node inode (table_nodes commit)) (addition_starts addition) ys of in
        let xs : List New = parts.0 in
        let zs : List New = parts.1 in
        let long : length (blocks_in xs) ≡ length (table_nodes commit) =
        length-map xs (λ (x : New). x.block)
        ∙ (of_long T fs node inode top is_open.few is_open.tree (node_starts node inode (table_nodes commit)) xs parts.3
        ∙ nodes_long node inode (table_nodes commit)) in
        let split : blocks_in ys ≡ blocks_in xs ++ blocks_in zs = ap blocks_in parts.2 ∙ map-append (λ (x : New). x.block) xs zs in
        let front : take (length (table_nodes commit)) (blocks_in ys) ≡ blocks_in xs =
        ap (take (length (table_nodes commit))) split ∙ take_at (blocks_in xs) (blocks_in zs) (length (table_nodes commit)) long in
        let back : drop (length (table_nodes commit)) (blocks_in ys) ≡ blocks_in zs =
        ap (drop (length (table_nodes commit))) split ∙ drop_at (blocks_in xs) (blocks_in zs) (length (table_nodes commit)) long in
        let ran' = subst (λ acts. Ran T fs acts b0 state' (Ok tt)) (λ j. commit_acts_of commit name y (front j) (back j)) ran in
        let stays = directory_stays content (readable b0 fs) top d c key b.inodes dir in
        let done = first_named T fs node inode top is_open.few is_open.tree state d c key name free.named wide (name_long name free.named) few_of n n_short
        n_some n_within next.can.free value addition placed y Tells tells told b0 state' xs zs b.at stays.0
        (record { alike = stays.1; ways = stays.2 }) b.ways parts.3 parts.4
        (subst (AreNew node inode (kinds b0 fs) (readable b0 fs) top) parts.2 news) (subst (All (λ x. x.block ≢ y)) parts.2 others) first ran' in (
          done.0,
          ap (λ f. f n) (sym b.files) ∙ done.1,
          done.2 ∙ ap (λ f. with_name (with_inode f n (Some value)) d name (led_to n)) b.files,
        )

  -- The volume

  abbrev pub later : Volume
  later = record volume { memory = committed_memory volume.memory d commit }

  abbrev pub Said : Volume → Type 0
  Said v = IsOpen T state' v × MakesInode state state' volume v d name n value

  module _ (done : IsDone state') where
    abbrev touched : List Touched
    touched = volume.memory.touched

    abbrev now : List Touched
    now = with_touched touched d (now_times volume.memory)

    lead : led_to n ≡ Some n
    lead = ap (λ t. if t then None else Some n) (ne_eqb n 0 n_some)

    not_seen : files_in state volume n ≡ None
    unfolding seen_files
    not_seen = ap (option_map (seen_inode touched n)) done.1

    lacks : All (λ touch. touch.number ≢ n) touched
    lacks = All-weaker (λ (touch : Touched). files_in state volume touch.number ≢ None) (λ touch. touch.number ≢ n)
        (λ touch some same. some (ap (files_in state volume) same ∙ not_seen)) touched is_open.touched

    files_so : files_in state' later ≡ made (files_in state volume) volume.memory.clock d name n value
    files_so =
        ap (seen_files now) (done.2 ∙ ap (with_name (with_inode (files_of content top) n (Some value)) d name) lead)
        ∙ (seen_touched touched (with_name (with_inode (files_of content top) n (Some value)) d name (Some n)) d (now_times volume.memory)
        ∙ ap (λ f. changed_at f d (touched_inode volume.memory.clock))
        (seen_named touched (with_inode (files_of content top) n (Some value)) d name (Some n)
        ∙ ap (λ f. with_name f d name (Some n)) (seen_with touched (files_of content top) n value lacks)))

    session : IsSession later.memory
    session = record {
      once = once_touched d (now_times volume.memory) touched kept.session.once;
      clock = kept.session.clock;
      times = all_touched (λ touch. AreTimes touch.times) d (now_times volume.memory) (kept.session.clock, kept.session.clock) touched kept.session.times;
    }

    still_there : (m : ℕ) → files_in state volume m ≢ None → files_in state' later m ≢ None
    still_there m some none = made_there (files_in state volume) volume.memory.clock d name n value m some (ap (λ f. f m) (sym files_so) ∙ none)

    pub said : Said later
    said = (
      record {
        kept = record { store = done.0.store; bytes = done.0.volume; session = session };
        few = is_open.few;
        tree = is_open.tree;
        short = is_open.short;
        root = done.0.root;
        touched = all_touched (λ touch. files_in state' later touch.number ≢ None) d (now_times volume.memory) (still_there d (λ none. absurd (cc (sym (seen_directory T state volume d name kept c free).1 ∙ none)))) touched
            (All-weaker (λ (touch : Touched). files_in state volume touch.number ≢ None) (λ touch. files_in state' later touch.number ≢ None)
            (λ touch some. still_there touch.number some) touched is_open.touched);
      },
      (is_new_name T state volume d name kept c free, not_seen, files_so),
    )
