-- A session puts a whole file or symbolic link.
use Rattle.std.proofs.Common.{◌≡◌, ◌≢◌, ℕ, ℤ, ◌<◌, Bool, true, List, ◌++◌, take, drop, length, Result, Ok, Err, refl, sym, ◌∙◌, ap, inl, inr, arith, subst, length-drop, length-take-le, take-append-drop}
use Rattle.std.specs.Prelude.{All}
use Rattle.std.proofs.lemmas.Bool.{cases_lt}
use Rattle.std.proofs.lemmas.List.{take_all}
use Rattle.std.proofs.lemmas.List.Elements.{All-drop}
use Rattle.xn_model.specs.Lives.{StoreState}
use Rattle.xn_model.specs.Types.{Types}
use Rattle.store_types.specs.declared.refusal.Refusal.{Refusal}
use Rattle.treefs_format.specs.declared.kind.Kind.{Kind}
use Rattle.treefs_format.specs.declared.kind.Kind.TheVariants as kinds
use Rattle.treefs_model.specs.Changes.{with_bytes}
use Rattle.treefs_model.specs.Files.{File, Files, Inode, SymbolicLink, bytes_in}
use Rattle.treefs_model.specs.declared.fault.Fault.{Fault}
use Rattle.treefs_model.specs.declared.fault.Fault.TheVariants.{Kernel}
use Rattle.treefs.specs.Creating.{BeginDoes}
use Rattle.treefs.specs.Trimming.{GiveUpDoes}
use Rattle.treefs.specs.declared.volume.Volume.{Volume}
use Rattle.treefs_values.specs.Attached.{new_content}
use Rattle.treefs_laws.specs.Begun.{IsBegun}
use Rattle.treefs_laws.specs.Kept.{files_in}
use Rattle.treefs_laws.specs.Making.{new_inode}
use Rattle.treefs_laws.specs.Open.{IsOpen}
use Rattle.treefs_laws.specs.Orphans.{IsReaped}
use Rattle.treefs_laws.specs.Unnamed.{IsUnnamed}
use Rattle.treefs_laws.proofs.ForCallers.{reaped_then}
use Rattle.treefs_session.specs.Pieces.{WriteBegunDoes, WritesAll}
use Rattle.treefs_session.specs.Puts.{Finishes, PutDoes, WritesAndNames}
use Rattle.treefs_session.specs.declared.calls.bytes.Target.TheVariants.{Begun}
use Rattle.treefs_session.specs.declared.put.Put.{Put}
use Rattle.treefs_session_laws.specs.Before.{IsUnheld}
use Rattle.treefs_session_laws.specs.Puts.{GetsName}
use Rattle.treefs_session_laws.proofs.Begun.{begins, begins_in_vain, begun_so}
use Rattle.treefs_session_laws.proofs.Freed.{held_or_not}
use Rattle.treefs_session_laws.proofs.GivenUp.{given_up}
use Rattle.treefs_session_laws.proofs.Grown.{begun_all, grown}
use Rattle.treefs_session_laws.proofs.Naming.{AreCommits, not_placed, placed}
use Rattle.treefs_session_laws.proofs.Written.{none_written}

-- What is told of inodes that are begun
pub record AreBegins (T : Types) (put : Put) : Type 0 where
  pub refused : (old new : StoreState) (v : Volume) (fault : Fault) → BeginDoes T old new v put.kind put.attributes (take 384 put.bytes.now) (Err fault) →
      new ≡ old
  pub begun : (old new : StoreState) (v : Volume) (block : ℕ) → IsOpen T old v →
      BeginDoes T old new v put.kind put.attributes (take 384 put.bytes.now) (Ok block) →
      IsOpen T new v × (files_in new v ≡ files_in old v)
      × (put.kind ≢ kinds.Directory → IsBegun new v block (new_inode v.memory.clock put.attributes (new_content put.kind 0 (take 384 put.bytes.now))))
  pub unnamed : (s : StoreState) (v : Volume) (block : ℕ) (inode : Inode) → IsOpen T s v → IsBegun s v block inode → IsUnnamed s v block
  pub writes : (block : ℕ) (old new : StoreState) (v : Volume) (at : ℕ) (bytes : List ℕ) (result : Result ℕ Fault) → IsOpen T old v →
      IsUnnamed old v block → All (λ b. b < 256) bytes → WriteBegunDoes T old new v block at bytes result →
      IsOpen T new v × (files_in new v ≡ files_in old v) × IsUnnamed new v block
  pub gives : (block : ℕ) (old new : StoreState) (v : Volume) (result : Result Bool Fault) → IsOpen T old v → IsUnnamed old v block →
      GiveUpDoes T old new v block result →
      IsOpen T new v × (files_in new v ≡ files_in old v) × (result ≢ Ok true → IsUnnamed new v block)

module _ (T : Types) (commits : AreCommits T) (held : List ℕ) (put : Put) (laws : AreBegins T put) (file : put.kind ≢ kinds.Directory)
    (wide : All (λ b. b < 256) put.bytes.now) where
  abbrev Reaped : Files → Files → Type 0
  Reaped = IsReaped (IsUnheld held)

  abbrev inode : Volume → Inode
  inode v = new_inode v.memory.clock put.attributes (new_content put.kind 0 (take 384 put.bytes.now))

  reaped_on : (old middle new : Files) → Reaped old middle → Reaped middle new → Reaped old new
  reaped_on old middle new first second = reaped_then (IsUnheld held) (held_or_not held) old middle new first second

  -- One that is refused

  abbrev Left : StoreState → StoreState → Volume → Volume → Type 0
  Left old new v v' = IsOpen T new v' × Reaped (files_in old v) (files_in new v')

  module _ (block : ℕ) (old : StoreState) (v : Volume) (is_open : IsOpen T old v) (unnamed : IsUnnamed old v block) where
    not_named : (new : StoreState) (v' : Volume) (fault : Fault) → ((reason : Refusal) → fault ≢ Kernel reason) → WritesAndNames T held put block old new v v' (Err fault) →
        Left old new v v' × IsUnnamed new v' block
    not_named new v' fault other (inl writes) =
        let is = begun_so T held block (laws.writes block) 384 (drop 384 put.bytes.now) old new v v' (Err fault) (is_open, unnamed)
        (All-drop (λ b. b < 256) 384 put.bytes.now wide) writes in
        ((is.is_open, is.files), is.unnamed)
    not_named new v' fault other (inr (middle, w, writes, names)) =
        let is = begun_so T held block (laws.writes block) 384 (drop 384 put.bytes.now) old middle v w (Ok tt) (is_open, unnamed)
        (All-drop (λ b. b < 256) 384 put.bytes.now wide) writes in
        let n = not_placed T commits held block put.directory put.name.now put.replace middle new w v' fault is.is_open other names in
        ((n.is_open, reaped_on (files_in old v) (files_in middle w) (files_in new v') is.files n.files), (n.unnamed block is.unnamed).0)

    not_finished : (new : StoreState) (v' : Volume) (fault : Fault) → ((reason : Refusal) → fault ≢ Kernel reason) → Finishes T held put block old new v v' (Err fault) →
        Left old new v v'
    not_finished new v' fault other (middle, w, given, does, gives_up) =
        let n = not_named middle w fault other does in
        let g = given_up T block (laws.gives block) middle new w v' given (n.0.0, n.1) gives_up in
        (g.is_open, subst (Reaped (files_in old v)) (sym g.files) n.0.1)

  pub not_put : (old new : StoreState) (v v' : Volume) (fault : Fault) → IsOpen T old v → ((reason : Refusal) → fault ≢ Kernel reason) → PutDoes T held put old new v v' (Err fault) →
      IsOpen T new v' × IsReaped (IsUnheld held) (files_in old v) (files_in new v')
  not_put old new v v' fault is_open other (inl not_begun) =
      let is = begins_in_vain T held put.kind put.attributes (take 384 put.bytes.now) laws.refused old new v v' fault is_open not_begun in
      (is.is_open, is.files)
  not_put old new v v' fault is_open other (inr (block, middle, w, is_begun, finishes)) =
      let b = begins T held put.kind put.attributes (take 384 put.bytes.now) laws.refused laws.begun old middle v w block is_open is_begun in
      let left = not_finished block middle w b.0 (laws.unnamed middle w block (inode v) b.0 (b.3 file)) new v' fault other finishes in
      (left.0, reaped_on (files_in old v) (files_in middle w) (files_in new v') b.1 left.1)

  -- One that is done

  abbrev head : List ℕ
  head = take 384 put.bytes.now

  abbrev rest : List ℕ
  rest = drop 384 put.bytes.now

  abbrev said : ℤ → List ℕ → Inode
  said time bytes = new_inode time put.attributes (new_content put.kind 0 bytes)

  said_bytes : (time : ℤ) (bytes : List ℕ) → bytes_in (said time bytes).content ≡ Ok bytes
  said_bytes time bytes = by put.kind file
    where
      by : (kind : Kind) → kind ≢ kinds.Directory → bytes_in (new_content kind 0 bytes) ≡ Ok bytes
      by kinds.Directory other = absurd (other refl)
      by kinds.File other = refl
      by kinds.SymbolicLink other = refl

  said_grown : (time : ℤ) → grown time rest (said time head) ≡ said time put.bytes.now
  said_grown time = ap (λ x. new_inode time put.attributes x) (by put.kind file)
    where
      whole : head ++ rest ≡ put.bytes.now
      whole = take-append-drop 384 put.bytes.now

      by : (kind : Kind) → kind ≢ kinds.Directory → with_bytes (λ was. was ++ rest) (new_content kind 0 head) ≡ new_content kind 0 put.bytes.now
      by kinds.Directory other = absurd (other refl)
      by kinds.File other = ap File whole
      by kinds.SymbolicLink other = ap SymbolicLink whole

  -- once all bytes are written it says what is put
  all_said : (block : ℕ) (old middle : StoreState) (v w : Volume) (time : ℤ) → v.memory.clock ≡ time → IsOpen T old v → IsBegun old v block (said time head) →
      WritesAll T held (Begun block 384) rest old middle v w (Ok tt) → IsBegun middle w block (said time put.bytes.now)
  all_said block old middle v w time clock is_open begun writes = elim (cases_lt 384 (length put.bytes.now)) [
    | inl more ↦
        let long : length head ≡ 384 = length-take-le 384 put.bytes.now (omega arith) in
        let left = length-drop 384 put.bytes.now in
        elim (begun_all T held block old middle v w (said time head) head rest (is_open, begun) (said_bytes time head) (All-drop (λ b. b < 256) 384 put.bytes.now wide)
        (subst (λ n. WritesAll T held (Begun block n) rest old middle v w (Ok tt)) (sym long) writes)) [
          | inl none ↦ absurd (omega (arith, none.0))
          | inr is ↦ subst (IsBegun middle w block) (ap (λ t. grown t rest (said time head)) clock ∙ said_grown time) is
        ]
    | inr few ↦
        let left = length-drop 384 put.bytes.now in
        let none = none_written T held (Begun block 384) rest old middle v w (Ok tt) writes (omega arith) in
        subst (λ l. IsBegun middle w block (said time l)) (take_all 384 put.bytes.now few)
        (subst (λ u. IsBegun middle u block (said time head)) (sym none.2) (subst (λ s. IsBegun s v block (said time head)) (sym none.1) begun))
  ]

  module _ (name_wide : All (λ b. b < 256) put.name.now) where
    abbrev pub IsPut : StoreState → StoreState → Volume → Volume → ℕ → Type 0
    IsPut old new v v' n = IsOpen T new v' × (files : Files) × IsReaped (IsUnheld held) (files_in old v) files
        × GetsName files (files_in new v') v.memory.clock put.directory put.name.now put.replace n
        (new_inode v.memory.clock put.attributes (new_content put.kind 0 put.bytes.now))

    finished : (block : ℕ) (old : StoreState) (v : Volume) → IsOpen T old v → (time : ℤ) → v.memory.clock ≡ time → IsBegun old v block (said time head) →
        (new : StoreState) (v' : Volume) (n : ℕ) → Finishes T held put block old new v v' (Ok n) →
        IsOpen T new v' × (files : Files) × Reaped (files_in old v) files
        × GetsName files (files_in new v') time put.directory put.name.now put.replace n (said time put.bytes.now)
    finished block old v is_open time clock begun new v' n (inl none) = absurd none
    finished block old v is_open time clock begun new v' n (inr (middle, w, writes, names)) =
        let beside = begun_so T held block (laws.writes block) 384 rest old middle v w (Ok tt) (is_open, laws.unnamed old v block (said time head) is_open begun)
        (All-drop (λ b. b < 256) 384 put.bytes.now wide) writes in
        let full = all_said block old middle v w time clock is_open begun writes in
        let p = placed T commits held block put.directory put.name.now put.replace middle new w v' (said time put.bytes.now) n beside.is_open full beside.unnamed
        name_wide names in
        let now : w.memory.clock ≡ time = beside.clock ∙ clock in (
          p.0,
          files_in p.1 p.2,
          reaped_on (files_in old v) (files_in middle w) (files_in p.1 p.2) beside.files p.3.files,
          subst (λ t. GetsName (files_in p.1 p.2) (files_in new v') t put.directory put.name.now put.replace n (said time put.bytes.now)) now p.4,
        )

    pub is_put : (old new : StoreState) (v v' : Volume) (n : ℕ) → IsOpen T old v → PutDoes T held put old new v v' (Ok n) → IsPut old new v v' n
    is_put old new v v' n is_open (inl none) = absurd none
    is_put old new v v' n is_open (inr (block, middle, w, is_begun, finishes)) =
        let b = begins T held put.kind put.attributes head laws.refused laws.begun old middle v w block is_open is_begun in
        let f = finished block middle w b.0 v.memory.clock b.2 (b.3 file) new v' n finishes in
        (f.0, f.1, reaped_on (files_in old v) (files_in middle w) f.1 b.1 f.2, f.3)
