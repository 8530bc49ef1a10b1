-- A call makes an inode with its first name: what that makes of an open volume.
use Rattle.std.proofs.Common.{◌≡◌, ◌≢◌, ℕ, ◌<◌, ◌≤◌, ◌^◌, List, [], ◌∷◌, length, drop, Ok, refl, sym, ◌∙◌, ap, inl, inr, arith, subst}
use Rattle.std.specs.Prelude.{All, slice_index}
use Rattle.std.proofs.lemmas.List.Elements.{All-cons, All-weaker}
use Rattle.xn_model.specs.Types.{Types}
use Rattle.xn_model.specs.Lives.{StoreState}
use Rattle.treefs_format.specs.Fields.{AreInRange}
use Rattle.treefs_format.specs.Inodes.{inode_bytes}
use Rattle.treefs_format.specs.declared.fields.Fields.{Fields}
use Rattle.treefs_format.specs.declared.kind.Kind.{Kind}
use Rattle.treefs_format.specs.declared.kind.Kind.TheVariants as kind
use Rattle.treefs_format.proofs.ForCallers.{mode_kind, mode_permissions, mode_short}
use Rattle.treefs_model.specs.Acts.{Ran}
use Rattle.treefs_model.specs.Files.{Inode}
use Rattle.treefs_model.specs.Reading.{inode_with, key_in}
use Rattle.treefs_lookup.specs.Readable.{readable}
use Rattle.treefs_edits.specs.Plans.{Does, DoesPlanned}
use Rattle.treefs_edits.specs.declared.start.Start.{Start}
use Rattle.treefs_name_plans.specs.CommitPlans.{commit_acts}
use Rattle.treefs_name_plans.specs.NewPlans.{IsNewPlanned, new_plan}
use Rattle.treefs_name_plans.specs.declared.commit_plan.CommitPlan.{CommitPlan}
use Rattle.treefs.specs.Committing.{committed_memory}
use Rattle.treefs.specs.Creating.{NewDoes, new_fields}
use Rattle.treefs.specs.Unlinking.{as_plan}
use Rattle.treefs.specs.declared.attributes.Attributes.{Attributes}
use Rattle.treefs.specs.declared.volume.Volume.{Volume}
use Rattle.treefs_values.specs.Attached.{new_content}
use Rattle.treefs_values.specs.Kinds.{kinds}
use Rattle.treefs_values.proofs.ForCallers.{AreBegun, AreNew, AreOf, IsAt, IsFineStart, IsNew, IsOther, IsTold, New, begun_so, blocks_in, directory_is, new_told}
use Rattle.treefs_laws.specs.Kept.{IsKept}
use Rattle.treefs_laws.specs.Making.{FitsAttributes, MakesInode, new_inode}
use Rattle.treefs_laws.specs.Open.{IsOpen}
use Rattle.treefs_laws.proofs.Begun.{fine_inode}
use Rattle.treefs_laws.proofs.FirstName.{IsDone, fine, first_begun, said, starts}
use Rattle.treefs_laws.proofs.InDirectory.{number_few}
use Rattle.treefs_laws.proofs.NewPlanned.{IsNewPlan, commit_of, new_planned}

-- a directory that is there has a number of 32 bits
pub directory_few : (T : Types) (state state' : StoreState) (volume middle : Volume) (d : ℕ) (name bytes : List ℕ) (plan : CommitPlan) →
    NewDoes T state state' volume middle d name bytes (Ok plan) → d < 2 ^ 32
directory_few T state state' volume middle d name bytes plan (planned, is_planned, does, ok, is) =
    let p = new_planned state volume.tree volume.memory d name plan (subst (IsNewPlanned state volume.tree volume.memory d name) ok is_planned) in
    let found = (directory_is (readable state volume.tree.fs.number) volume.tree.top d p.free.found p.free.found_is).0 in
    number_few (readable state volume.tree.fs.number) volume.tree.top d found.number found.there

module _ (T : Types) (state state' : StoreState) (volume : Volume) (d : ℕ) (name : List ℕ) (is_open : IsOpen T state volume)
    (wide : All (λ b. b < 256) name) (k : Kind) (attributes : Attributes) (fit : FitsAttributes attributes) (parent : ℕ) (parent_few : parent < 2 ^ 32) (head : List ℕ)
    (head_wide : All (λ b. b < 256) head) (short : length head ≤ 384) (empty : k ≡ kind.Directory → head ≡ []) where
  abbrev fs : ℕ
  fs = volume.tree.fs.number

  abbrev top : ℕ
  top = volume.tree.top

  abbrev node : ℕ
  node = volume.tree.node_type

  abbrev inode : ℕ
  inode = volume.tree.inode_type

  abbrev content : ℕ → List ℕ
  content = readable state fs

  abbrev key : List ℕ
  key = key_in content top

  abbrev fields : Fields
  fields = new_fields volume.tree volume.memory k attributes parent (length head)

  abbrev value : Inode
  value = new_inode volume.memory.clock attributes (new_content k parent head)

  kept : IsKept T state volume
  kept = is_open.kept

  in_range : AreInRange fields
  in_range = record {
    leaf_type = omega arith;
    node_type = is_open.short.0;
    mode = mode_short k attributes.permissions fit.permissions;
    links = omega arith;
    uid = fit.uid;
    gid = fit.gid;
    size = omega arith;
    mtime = kept.session.clock;
    ctime = kept.session.clock;
    parent = parent_few;
    generation = fit.generation;
  }

  value_is : inode_with fields (new_content k fields.parent head) ≡ value
  value_is = ap (λ p. record value { permissions = p }) (mode_permissions k attributes.permissions fit.permissions)

  here : IsAt T fs node inode top state
  here = record { store = kept.store; root = is_open.root; volume = kept.bytes }

  module _ (plan : CommitPlan) (p : IsNewPlan state volume.tree volume.memory d name plan) where
    abbrev commit : CommitPlan
    commit = commit_of state volume.tree volume.memory d name p.n p.directory p.addition

    abbrev behind : List Start
    behind = starts T state state' volume d name is_open wide value (inode_bytes fields head) p.n p.directory p.free p.next p.addition p.addition_found

    abbrev all : List Start
    all = record { ty = inode; bytes = inode_bytes fields head } ∷ behind

    abbrev Fine : Start → Type 0
    Fine = IsFineStart T fs node inode top is_open.few is_open.tree

    all_fine : All Fine all
    all_fine = All-cons Fine (record { ty = inode; bytes = inode_bytes fields head }) behind
        (fine_inode T fs node inode top is_open.few is_open.tree kept.bytes.types.0 kept.bytes.some_types is_open.short fields head in_range head_wide short)
        (fine T state state' volume d name is_open wide value (inode_bytes fields head) p.n p.directory p.free p.next p.addition p.addition_found)

    abbrev Done : Type 0
    Done = IsDone T state state' volume d name is_open wide value (inode_bytes fields head) p.n p.directory p.free p.next p.addition p.addition_found state'

    module _ (begun : List ℕ) (b0 : StoreState) (b : AreBegun T fs node inode top is_open.few is_open.tree all [] begun state b0)
        (ran : Ran T fs (commit_acts commit name (slice_index begun 0) (drop 1 begun)) b0 state' (Ok tt)) where
      from_begun : (made' : List New) → begun ≡ blocks_in made' → AreOf T fs node inode top is_open.few is_open.tree all made' →
          AreNew node inode (kinds b0 fs) (readable b0 fs) top made' → Done
      from_begun [] blocks of news = absurd of
      from_begun (y ∷ ys) blocks of news =
          first_begun T state state' volume d name is_open wide value (inode_bytes fields head) p.n p.directory p.free p.next p.addition p.addition_found all begun
          b0 b y.block (λ s. IsNew node inode (kinds s fs) (readable s fs) top y)
          (λ xs s s' since news_xs apart is. since.keeps y is (All-weaker (λ (x : New). x.block ≢ y.block) (λ z. IsOther z y) (λ x ne same. ne (sym same)) xs apart))
          (λ s there is h read. subst (IsTold node inode (kinds s fs) (readable s fs) top h y.block) value_is
          (new_told node inode top (kinds s fs) (readable s fs) there.volume y is of.0 fields head of.1 in_range short refl k
          (mode_kind k attributes.permissions fit.permissions) empty h read)) ys of.2 news.2 news.1 news.0
          (subst (λ bs. Ran T fs (commit_acts commit name (slice_index bs 0) (drop 1 bs)) b0 state' (Ok tt)) blocks ran)

    carried : Does T fs (new_plan name (inode_bytes fields head) commit) state state' (Ok tt) → Done
    carried does = elim does [
      | inl none ↦ absurd none
      | inr r ↦ (λ (b : AreBegun T fs node inode top is_open.few is_open.tree all [] r.0 state r.1). from_begun r.0 r.1 b r.3 b.made b.blocks_are b.of b.news)
          (begun_so T fs node inode top is_open.few is_open.tree all [] r.0 state r.1 all_fine here r.2)
    ]

  -- The call

  pub new_said : (volume' : Volume) (plan : CommitPlan) → NewDoes T state state' volume volume' d name (inode_bytes fields head) (Ok plan) →
      IsOpen T state' volume' × MakesInode state state' volume volume' d name plan.number value
  new_said volume' plan (planned, is_planned, does, ok, is) =
      let p = new_planned state volume.tree volume.memory d name plan (subst (IsNewPlanned state volume.tree volume.memory d name) ok is_planned) in
      let does' = subst (λ x. DoesPlanned T fs (as_plan (new_plan name (inode_bytes fields head)) x) state state' (Ok tt)) (ok ∙ ap Ok p.plan_is) does in
      let whole = said T state state' volume d name is_open wide value (inode_bytes fields head) p.n p.directory p.free p.next p.addition p.addition_found (carried plan p does') in
      let plan_same : commit plan p ≡ plan = sym p.plan_is in
      subst (λ v. IsOpen T state' v × MakesInode state state' volume v d name plan.number value) (sym is)
      (subst (λ (q : CommitPlan). IsOpen T state' (record volume { memory = committed_memory volume.memory d q })
      × MakesInode state state' volume (record volume { memory = committed_memory volume.memory d q }) d name q.number value) plan_same whole)

  -- a directory's record is noted
  pub noted : (volume' : Volume) (n word : ℕ) → IsOpen T state' volume' × MakesInode state state' volume volume' d name n value →
      let after : Volume = record volume' { memory = record volume'.memory { last_dir = word } } in
      IsOpen T state' after × MakesInode state state' volume after d name n value
  noted volume' n word (o, makes) = (
    record {
      kept = record {
        store = o.kept.store;
        bytes = o.kept.bytes;
        session = record { once = o.kept.session.once; clock = o.kept.session.clock; times = o.kept.session.times };
      };
      few = o.few;
      tree = o.tree;
      short = o.short;
      root = o.root;
      touched = o.touched;
    },
    makes,
  )
