-- An inode that was begun gets its first name.
use Rattle.std.proofs.Common.{◌≡◌, ◌≢◌, ℕ, ◌<◌, Bool, false, List, [], Result, Ok, Err, sym, ◌∙◌, ap, inl, inr, subst}
use Rattle.std.specs.Prelude.{All}
use Rattle.xn_model.specs.Types.{Types}
use Rattle.xn_model.specs.Lives.{StoreState}
use Rattle.treefs_model.specs.Acts.{Ran}
use Rattle.treefs_model.specs.Files.{Inode}
use Rattle.treefs_model.specs.Reading.{key_in}
use Rattle.treefs_lookup.specs.Readable.{readable}
use Rattle.treefs_edits.specs.Plans.{Begins, Does}
use Rattle.treefs_edits.specs.declared.start.Start.{Start}
use Rattle.treefs_name_plans.specs.CommitPlans.{IsCommitPlanned, commit_acts, commit_plan}
use Rattle.treefs_name_plans.specs.declared.commit_plan.CommitPlan.{CommitPlan}
use Rattle.store_types.specs.declared.refusal.Refusal.{Refusal}
use Rattle.xn_model.specs.Calls.{read_of}
use Rattle.treefs.specs.Committing.{CommitDoes, committed_memory, if_readable}
use Rattle.treefs.specs.declared.volume.Volume.{Volume}
use Rattle.treefs_values.proofs.ForCallers.{IsAt, IsFineStart, begun_so}
use Rattle.treefs_laws.specs.Kept.{IsKept}
use Rattle.treefs_laws.specs.Making.{MakesInode}
use Rattle.treefs_laws.specs.Begun.{IsBegun}
use Rattle.treefs_laws.specs.Open.{IsOpen}
use Rattle.treefs_laws.proofs.AsideTold.{Tells, aside_tells, aside_told, begun_others, begun_tells, others_are}
use Rattle.treefs_laws.proofs.FirstName.{IsDone, fine, first_begun, said, starts}
use Rattle.treefs_laws.proofs.NewPlanned.{IsFirstPlan, commit_of, first_planned}
use Rattle.treefs_laws.proofs.Planned.{same_done, then_ok}

module _ (T : Types) (state state' : StoreState) (volume : Volume) (d : ℕ) (name : List ℕ) (is_open : IsOpen T state volume)
    (wide : All (λ b. b < 256) name) (block : ℕ) (value : Inode) (y_is : IsBegun state volume block value) where
  abbrev fs : ℕ
  fs = volume.tree.fs.number

  abbrev top : ℕ
  top = volume.tree.top

  abbrev node : ℕ
  node = volume.tree.node_type

  abbrev inode : ℕ
  inode = volume.tree.inode_type

  abbrev content : ℕ → List ℕ
  content = readable state fs

  abbrev key : List ℕ
  key = key_in content top

  kept : IsKept T state volume
  kept = is_open.kept

  pub here : IsAt T fs node inode top state
  here = record { store = kept.store; root = is_open.root; volume = kept.bytes }

  module _ (plan : CommitPlan) (p : IsFirstPlan state volume.tree volume.memory d name plan) where
    abbrev commit : CommitPlan
    commit = commit_of state volume.tree volume.memory d name p.n p.directory p.addition

    abbrev all : List Start
    all = starts T state state' volume d name is_open wide value [] p.n p.directory p.free p.next p.addition p.addition_found

    abbrev Done : Type 0
    Done = IsDone T state state' volume d name is_open wide value [] p.n p.directory p.free p.next p.addition p.addition_found state'

    abbrev Fine : Start → Type 0
    Fine = IsFineStart T fs node inode top is_open.few is_open.tree

    all_fine : All Fine all
    all_fine = fine T state state' volume d name is_open wide value [] p.n p.directory p.free p.next p.addition p.addition_found

    stored : (begun : List ℕ) (b0 : StoreState) → Begins T fs all [] state b0 (Ok begun) →
        Ran T fs (commit_acts commit name block begun) b0 state' (Ok tt) → Done
    stored begun b0 begins ran =
        let b = begun_so T fs node inode top is_open.few is_open.tree all [] begun state b0 all_fine here begins in
        first_begun T state state' volume d name is_open wide value [] p.n p.directory p.free p.next p.addition p.addition_found all begun b0 b block
        (Tells T state volume is_open block value y_is)
        (λ xs s s' since news apart tells. aside_tells T state volume is_open block value y_is xs s s' since news apart tells)
        (λ s there tells h read. aside_told T state volume is_open block value y_is s tells h read) b.made b.of b.news
        (others_are block b.made (subst (All (λ x. x ≢ block)) b.blocks_are
        (begun_others T state volume is_open block value y_is all all_fine begun b0 begins)))
        (begun_tells T state volume is_open block value y_is all all_fine begun b0 begins)
        (subst (λ bs. Ran T fs (commit_acts commit name block bs) b0 state' (Ok tt)) b.blocks_are ran)

    carried : Does T fs (commit_plan name block commit) state state' (Ok tt) → Done
    carried does = elim does [
      | inl none ↦ absurd none
      | inr r ↦ stored r.0 r.1 r.2 r.3
    ]

  -- The call

  abbrev pub IsPlanned : Bool → Volume → ℕ → CommitPlan → Type 0
  IsPlanned replace volume' n plan = IsCommitPlanned state volume.tree volume.memory d name replace (Ok plan) × Does T fs (commit_plan name block plan) state state' (Ok tt)
      × (n ≡ plan.number) × (volume' ≡ record volume { memory = committed_memory volume.memory d plan })

  pub planned_so : (replace : Bool) (volume' : Volume) (n : ℕ) → CommitDoes T state state' volume volume' block d name replace (Ok n) →
      (plan : CommitPlan) × IsPlanned replace volume' n plan
  planned_so replace volume' n (Err fault, is_planned, does, number, is) = absurd does
  planned_so replace volume' n (Ok plan, (inner, is_planned, e), does, number, is) =
      let one = then_ok inner (if_readable (read_of state fs block)) plan (sym e) in
      let same : one.0 ≡ plan = of_read (read_of state fs block) one.0 plan one.2 in
      (plan, (subst (IsCommitPlanned state volume.tree volume.memory d name replace) (one.1 ∙ ap Ok same) is_planned, does, number, is))
    where
      of_read : (r : Result (List ℕ) Refusal) (x plan : CommitPlan) → if_readable r x ≡ Ok plan → x ≡ plan
      of_read (Ok bytes) x plan e = same_done x plan e
      of_read (Err reason) x plan e = absurd (cc e)

  pub first_said : (replace : Bool) (volume' : Volume) (n : ℕ) (plan : CommitPlan) → IsFirstPlan state volume.tree volume.memory d name plan →
      IsPlanned replace volume' n plan → IsOpen T state' volume' × MakesInode state state' volume volume' d name n value
  first_said replace volume' n plan p (is_planned, does, number, is) =
      let does' = subst (λ x. Does T fs (commit_plan name block x) state state' (Ok tt)) p.plan_is does in
      let whole = said T state state' volume d name is_open wide value [] p.n p.directory p.free p.next p.addition p.addition_found (carried plan p does') in
      subst (λ m. IsOpen T state' volume' × MakesInode state state' volume volume' d name m value) (sym number)
      (subst (λ v. IsOpen T state' v × MakesInode state state' volume v d name plan.number value) (sym is)
      (subst (λ (q : CommitPlan). IsOpen T state' (record volume { memory = committed_memory volume.memory d q })
      × MakesInode state state' volume (record volume { memory = committed_memory volume.memory d q }) d name q.number value) (sym p.plan_is) whole))

  pub committed_said : (volume' : Volume) (n : ℕ) → CommitDoes T state state' volume volume' block d name false (Ok n) →
      IsOpen T state' volume' × MakesInode state state' volume volume' d name n value
  committed_said volume' n does =
      let c = planned_so false volume' n does in
      first_said false volume' n c.0 (first_planned state volume.tree volume.memory d name c.0 c.1.0) c.1
