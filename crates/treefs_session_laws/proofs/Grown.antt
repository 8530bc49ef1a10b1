-- Bytes that a session writes behind those of an inode that was begun, piece by piece.
use Rattle.std.proofs.Common.{◌≡◌, ◌≢◌, ◌⊎◌, ℕ, ℤ, ◌+◌, ◌-◌, ◌^◌, ◌<◌, ◌≤◌, List, [], ◌∷◌, ◌++◌, length, take, drop, Result, Ok, Err, refl, sym, ◌∙◌, ap, inl, inr, arith, subst, append_assoc, append-nil, length-append, length-take-le, take-append-drop}
use Rattle.std.specs.Prelude.{All, min}
use Rattle.std.proofs.lemmas.List.Elements.{All-drop}
use Rattle.store_types.specs.declared.refusal.Refusal.{Refusal}
use Rattle.xn_model.specs.Lives.{StoreState}
use Rattle.xn_model.specs.Types.{Types}
use Rattle.treefs_format.specs.Leaves.{greatest_size}
use Rattle.treefs_model.specs.Changes.{rewritten, with_bytes}
use Rattle.treefs_model.specs.Files.{Content, Directory, File, Inode, SymbolicLink, bytes_in}
use Rattle.treefs_model.specs.declared.fault.Fault.{Fault}
use Rattle.treefs_model.specs.declared.fault.Fault.TheVariants.{Kernel}
use Rattle.treefs.specs.declared.volume.Volume.{Volume}
use Rattle.treefs_laws.specs.Begun.{IsBegun}
use Rattle.treefs_laws.specs.Open.{IsOpen}
use Rattle.treefs_laws.proofs.ForCallers.{begun_grown, begun_not_grown, begun_written, still_begun}
use Rattle.treefs_session.specs.Freeing.{MakesFreely, lacks_space}
use Rattle.treefs_session.specs.Pieces.{WritesAll, WritesPiece, advanced, goes, stays, stops, whole}
use Rattle.treefs_session.specs.Tries.{is_full}
use Rattle.treefs_session.specs.declared.calls.bytes.Target.{Target}
use Rattle.treefs_session.specs.declared.calls.bytes.Target.TheVariants.{Begun}
use Rattle.treefs_session_laws.specs.Before.{IsAsBeforeButOrphans}
use Rattle.treefs_session_laws.proofs.Kept.{made_last}
use Rattle.treefs_session_laws.proofs.Tried.{IsAgain}

same_done : (x y : List ℕ) → ◌≡◌ {A = Result (List ℕ) Fault} (Ok x) (Ok y) → x ≡ y
same_done x y e = cc e

-- An inode with bytes behind those that it had

abbrev pub grown : ℤ → List ℕ → Inode → Inode
grown time bytes inode = rewritten time (λ was. was ++ bytes) inode

pub grown_bytes : (x : Content) (was bytes : List ℕ) → bytes_in x ≡ Ok was → bytes_in (with_bytes (λ was. was ++ bytes) x) ≡ Ok (was ++ bytes)
grown_bytes (File old) was bytes is = ap (λ l. Ok (l ++ bytes)) (same_done old was is)
grown_bytes (SymbolicLink old) was bytes is = ap (λ l. Ok (l ++ bytes)) (same_done old was is)
grown_bytes (Directory parent names) was bytes is = absurd (cc is)

grown_twice : (time : ℤ) (inode : Inode) (first rest : List ℕ) → grown time rest (grown time first inode) ≡ grown time (first ++ rest) inode
grown_twice time inode first rest = ap (λ x. record inode { mtime = time; ctime = time; content = x }) (by inode.content)
  where
    by : (x : Content) → with_bytes (λ was. was ++ rest) (with_bytes (λ was. was ++ first) x) ≡ with_bytes (λ was. was ++ (first ++ rest)) x
    by (File old) = ap File (append_assoc old first rest)
    by (SymbolicLink old) = ap SymbolicLink (append_assoc old first rest)
    by (Directory parent names) = refl

-- what is tried again is no refusal by the store
not_kernel : (fault : Fault) → IsAgain fault → (reason : Refusal) → fault ≢ Kernel reason
not_kernel fault (inl full) reason is = absurd (cc (sym (ap is_full is) ∙ full))
not_kernel fault (inr space) reason is = absurd (cc (sym (ap lacks_space is) ∙ space))

module _ (T : Types) (held : List ℕ) (c : ℕ) where
  abbrev Unheld : StoreState → StoreState → Volume → Volume → Type 0
  Unheld old new v v' = IsAsBeforeButOrphans T held old new v v'

  -- While nothing is written

  module _ (inode : Inode) where
    abbrev pub Holds : StoreState → Volume → Type 0
    Holds s v = IsOpen T s v × IsBegun s v c inode

    pub record IsBeside (old new : StoreState) (v v' : Volume) : Type 0 where
      pub holds : Holds new v'
      pub clock : v'.memory.clock ≡ v.memory.clock

    beside_then : (old middle new : StoreState) (v w x : Volume) → IsBeside old middle v w → IsBeside middle new w x → IsBeside old new v x
    beside_then old middle new v w x first second = record { holds = second.holds; clock = second.clock ∙ first.clock }

    frees : (old new : StoreState) (v v' : Volume) → Holds old v → Unheld old new v v' → IsBeside old new v v'
    frees old new v v' holds is =
        let kept = is.unnamed c holds.1.unnamed in
        record { holds = (is.is_open, still_begun old new v v' c inode holds.1 kept.0 kept.1); clock = is.clock }

    module _ (at : ℕ) (bytes : List ℕ) (wide : All (λ b. b < 256) bytes) where
      abbrev Writes : StoreState → StoreState → Volume → Volume → Result ℕ Fault → Type 0
      Writes old new v v' result = WritesPiece T (Begun c at) bytes old new v v' result

      refused : (old new : StoreState) (v v' : Volume) (fault : Fault) → Holds old v → IsAgain fault → Writes old new v v' (Err fault) → IsBeside old new v v'
      refused old new v v' fault holds is (does, still) =
          let said = begun_written T old v holds.0 c holds.1.unnamed at bytes wide new (Err fault) does in
          subst (λ w. IsBeside old new v w) (sym still)
          (record {
            holds = (said.0, begun_not_grown T old v holds.0 c inode holds.1 bytes wide at new fault (not_kernel fault is) does);
            clock = refl;
          })

      -- a piece of them
      pub piece_grown : (was : List ℕ) → bytes_in inode.content ≡ Ok was → at ≡ length was → 0 < length bytes → (old new : StoreState) (v v' : Volume)
          (taken : ℕ) → Holds old v → MakesFreely Writes T held old new v v' (Ok taken) →
          IsOpen T new v' × (v'.memory.clock ≡ v.memory.clock) × (taken ≤ length bytes) × (at + taken ≤ greatest_size)
          × IsBegun new v' c (grown v.memory.clock (take taken bytes) inode)
      piece_grown was is at_is some old new v v' taken holds makes =
          let last = made_last T held Holds (λ s v holds. holds.0) IsBeside (λ old new v v' is. is.holds) beside_then frees Writes refused old new v v' taken
          holds makes in
          let s : StoreState = last.0 in
          let w : Volume = last.1 in
          let before : IsBeside old s v w = last.2 in
          let full : length bytes ≢ 0 = λ z. absurd (omega (arith, z)) in
          let said = begun_written T s w before.holds.0 c before.holds.1.unnamed at bytes wide new (Ok taken) last.3.0 in
          let one = begun_grown T s w before.holds.0 c inode before.holds.1 bytes wide full new taken at
          (at_is ∙ ap length (same_done was before.holds.1.bytes (sym is ∙ before.holds.1.bytes_are))) last.3.0 in
          subst (λ u. IsOpen T new u × (u.memory.clock ≡ v.memory.clock) × (taken ≤ length bytes) × (at + taken ≤ greatest_size)
          × IsBegun new u c (grown v.memory.clock (take taken bytes) inode)) (sym last.3.1)
          (said.0, before.clock, one.1, one.2, subst (λ t. IsBegun new w c (grown t (take taken bytes) inode)) before.clock one.3)

  -- All of them

  all_grown : (target : Target) (bytes : List ℕ) (old new : StoreState) (v v' : Volume) (result : Result (Unit {0}) Fault) →
      WritesAll T held target bytes old new v v' result → result ≡ Ok tt → (inode : Inode) (was : List ℕ) → bytes_in inode.content ≡ Ok was →
      target ≡ Begun c (length was) → Holds inode old v → All (λ b. b < 256) bytes →
      ((length bytes ≡ 0) × IsBegun new v' c inode) ⊎ IsBegun new v' c (grown v.memory.clock bytes inode)
  all_grown target bytes old new v v' result (whole none) done inode was is at holds wide = inl (none, holds.1)
  all_grown target bytes old new v v' result (stops some made) done inode was is at holds wide = absurd (cc done)
  all_grown target bytes old new v v' result (stays some made) done inode was is at holds wide = absurd (cc done)
  all_grown target bytes old new v v' result (goes taken middle between some more made rest) done inode was is at holds wide =
      let one = piece_grown inode (length was) bytes wide was is refl some old middle v between taken holds
      (subst (λ t. MakesFreely (WritesPiece T t bytes) T held old middle v between (Ok taken)) at made) in
      let first : List ℕ = take taken bytes in
      let clock : between.memory.clock ≡ v.memory.clock = one.1 in
      let few = one.2 in
      let low = one.3 in
      let long : length first ≡ taken = length-take-le taken bytes few in
      let whole_long = length-append was first in
      let next_at : advanced target taken ≡ Begun c (length (was ++ first)) =
      ap (λ t. advanced t taken) at
      ∙ ap (Begun c) (let e : min (length was + taken) (2 ^ 64 - 1) ≡ length (was ++ first) = omega arith in e) in
      let parts : first ++ drop taken bytes ≡ bytes = take-append-drop taken bytes in
      elim (all_grown (advanced target taken) (drop taken bytes) middle new between v' result rest done (grown v.memory.clock first inode) (was ++ first)
      (grown_bytes inode.content was first is) next_at (one.0, one.4) (All-drop (λ b. b < 256) taken bytes wide)) [
        | inl none ↦ inr (subst (λ l. IsBegun new v' c (grown v.memory.clock l inode)) (all_first first (drop taken bytes) bytes parts none.0) none.1)
        | inr later ↦ inr (subst (λ l. IsBegun new v' c (grown v.memory.clock l inode)) parts (subst (λ i. IsBegun new v' c i)
            (grown_twice v.memory.clock inode first (drop taken bytes))
            (subst (λ t. IsBegun new v' c (grown t (drop taken bytes) (grown v.memory.clock first inode))) clock later)))
      ]
    where
      no_bytes : (l : List ℕ) → length l ≡ 0 → l ≡ []
      no_bytes [] e = refl
      no_bytes (b ∷ l) e = absurd (omega (arith, e))

      all_first : (first rest bytes : List ℕ) → first ++ rest ≡ bytes → length rest ≡ 0 → first ≡ bytes
      all_first first rest bytes parts none = sym (append-nil first) ∙ (ap (λ l. first ++ l) (sym (no_bytes rest none)) ∙ parts)

  pub begun_all : (old new : StoreState) (v v' : Volume) (inode : Inode) (was bytes : List ℕ) → Holds inode old v → bytes_in inode.content ≡ Ok was →
      All (λ b. b < 256) bytes → WritesAll T held (Begun c (length was)) bytes old new v v' (Ok tt) →
      ((length bytes ≡ 0) × IsBegun new v' c inode) ⊎ IsBegun new v' c (grown v.memory.clock bytes inode)
  begun_all old new v v' inode was bytes holds is wide all =
      all_grown (Begun c (length was)) bytes old new v v' (Ok tt) all refl inode was is refl holds wide
