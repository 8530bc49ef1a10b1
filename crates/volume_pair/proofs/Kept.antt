-- What is known of a file system stays over the calls of others, over what the device does, and over a crash.
use Rattle.std.proofs.Common.{◌∙◌, lit≤, false, Ok, Err, ◌≡◌, ◌≢◌, ℕ, ◌<◌, ◌≤◌, List, Option, Some, None, Result, refl, sym, ap, subst, IfSome, IsOk, IsSomeAnd, IsTrue}
use Rattle.store_types.specs.declared.refusal.Refusal.{Refusal}
use Rattle.xn_model.specs.Types.{Types}
use Rattle.xn_model.specs.Lives.{StoreState}
use Rattle.xn_model.specs.Results.{Gives, GivesExactly}
use Rattle.xn_model.specs.Calls.{Edit, init_of, propose_of, make_root_of, forget_of, pending_of}
use Rattle.xn_model.specs.Languages.{Extends}
use Rattle.xn_model.specs.Worlds.{World, Event, Client, Install, Begin, Land, Fail, Sync, FailSync, Finish, Crash, Reply, Step, IsEvent, is_crash, types_now}
use Rattle.xn_model.specs.Rules.{IsConsistent, Holds, Keeps}
use Rattle.xn_model.proofs.ForCallers.{gives_keeps, gives_exactly_keeps, step_keeps, types_grow}
use Rattle.xn_model.proofs.ForCallers as model
use Rattle.ffs_model.specs.Cuts.{CutsFrom}
use Rattle.ffs_model.specs.Events.{IsForeign}
use Rattle.ffs_model.specs.Library.{library_layout, IsLibrary}
use Rattle.ffs_model.proofs.ForCallers.{begun_next, cuts_same, event_cuts, forget_cuts, forgot_next, init_cuts, library_reads, make_root_cuts, none_later, nothing_pending, one_later, opened_keeps, propose_cuts, proposed_next, rooted_next, volume_from}
use Rattle.ffs_model.specs.Volumes.{VolumeKeeps, no_edits}
use Rattle.ffs_lookup.specs.declared.fault.FfsFault.{FfsFault}
use Rattle.ffs_lookup.specs.Files.{Answer}
use Rattle.ffs_lib.specs.Stages.{Does, Stages}
use Rattle.ffs_lib.specs.declared.volume.Volume.{Volume}
use Rattle.xn_state.specs.declared.event.Event as world_event
use Rattle.xn_state.specs.declared.event.Event.TheVariants as event
use Rattle.xn_state.specs.Events.{event_of}
use Rattle.volume_pair.specs.Kept.{HasLibrary, IsDevice, IsKept, Lasts, Stays, array_of}

pub if_some : {A : Type 0} (P Q : A → Type 0) (o : Option A) → ((x : A) → o ≡ Some x → P x → Q x) → IfSome o P → IfSome o Q
if_some P Q None f h = tt
if_some P Q (Some x) f h = f x refl h

pub some_and : {A : Type 0} (P Q : A → Type 0) (o : Option A) → IsSomeAnd o P → IfSome o Q → (x : A) × P x × Q x
some_and P Q None p q = absurd p
some_and P Q (Some x) p q = (x, p, q)

pub retyped : (T T' : Types) (state : StoreState) (fs : ℕ) (volume : Option Volume) → T' ≡ T → IsKept T state fs volume → IsKept T' state fs volume
retyped T T' state fs volume e k = subst (λ U. IsKept U state fs volume) (sym e) k

-- each cut was one before, and numbers do not fall
abbrev pub Follows : ℕ → StoreState → StoreState → Type 0
Follows fs old new = CutsFrom fs old.lives new.lives × (old.next ≤ new.next)

pub follows_same : (fs : ℕ) (old : StoreState) → Follows fs old old
follows_same fs old = (cuts_same fs old.lives, none_later old.next old.next refl)

pub cuts_keep : (T : Types) (old new : StoreState) (fs : ℕ) (volume : Option Volume) → IsConsistent T new → Follows fs old new → IsKept T old fs volume → IsKept T new fs volume
cuts_keep T old new fs volume h from k = record {
  library = k.library;
  few = k.few;
  keeps = volume_from T T library_layout (library_reads T k.library) fs k.few (array_of volume) old new h from.1 from.0 k.keeps;
  mine = k.mine;
}

module _ (T : Types) (old new : StoreState) (h : IsConsistent T new) (fs : ℕ) (volume : Option Volume) (k : IsKept T old fs volume) where
  pub init_keeps : (x ty : ℕ) (bytes : List ℕ) (r : Result (ℕ × ℕ) Refusal) → Gives (init_of T old x ty bytes) old new r → IsKept T new fs volume
  init_keeps x ty bytes r given = cuts_keep T old new fs volume h
      (gives_keeps (Follows fs old) (init_of T old x ty bytes) old new r given (follows_same fs old)
      (λ made e. (init_cuts T old k.keeps.consistent fs x ty bytes made new e, one_later new.next old.next (begun_next T old new x ty bytes made e)))) k

  pub propose_keeps : (x b : ℕ) (edit : Edit) (r : Result ℕ Refusal) → x ≢ fs → Gives (propose_of T old x b edit) old new r → IsKept T new fs volume
  propose_keeps x b edit r ne given = cuts_keep T old new fs volume h
      (gives_keeps (Follows fs old) (propose_of T old x b edit) old new r given (follows_same fs old)
      (λ entry e. (propose_cuts T old k.keeps.consistent fs x b edit entry new ne e, one_later new.next old.next (proposed_next T old new x b edit entry e)))) k

  pub make_root_keeps : (x b : ℕ) (r : Result ℕ Refusal) → x < 32 → x ≢ fs → Gives (make_root_of old x b) old new r → IsKept T new fs volume
  make_root_keeps x b r few ne given = cuts_keep T old new fs volume h
      (gives_keeps (Follows fs old) (make_root_of old x b) old new r given (follows_same fs old)
      (λ entry e. (make_root_cuts T old k.keeps.consistent fs x b entry new few ne e, one_later new.next old.next (rooted_next old new x b entry e).1))) k

  pub forget_keeps : (x b : ℕ) (r : Result (Unit {0}) Refusal) → GivesExactly (forget_of T old x b) old new r → IsKept T new fs volume
  forget_keeps x b r given = cuts_keep T old new fs volume h
      (gives_exactly_keeps (Follows fs old) (forget_of T old x b) old new r given (follows_same fs old)
      (λ done e. (forget_cuts T old k.keeps.consistent fs x b done new h e, none_later new.next old.next (forgot_next T old new x b done e)))) k

-- the library's types stay over calls

pub retyped_library : (T T' : Types) (state : StoreState) → T' ≡ T → HasLibrary T state → HasLibrary T' state
retyped_library T T' state e has = subst (λ U. HasLibrary U state) (sym e) has

pub has_still : (T : Types) (old new : StoreState) → HasLibrary T old → Keeps T old new → HasLibrary T new
has_still T old new has k = record { rules = k.consistent; library = has.library }

module _ (T : Types) (old new : StoreState) (has : HasLibrary T old) where
  pub init_has : (fs ty : ℕ) (bytes : List ℕ) (r : Result (ℕ × ℕ) Refusal) → Gives (init_of T old fs ty bytes) old new r → HasLibrary T new
  init_has fs ty bytes r given = gives_keeps (HasLibrary T) (init_of T old fs ty bytes) old new r given has (λ made e. has_still T old new has (model.init_keeps T old has.rules fs ty bytes made new e))

  pub propose_has : (fs b : ℕ) (edit : Edit) (r : Result ℕ Refusal) → Gives (propose_of T old fs b edit) old new r → HasLibrary T new
  propose_has fs b edit r given = gives_keeps (HasLibrary T) (propose_of T old fs b edit) old new r given has (λ entry e. has_still T old new has (model.propose_keeps T old has.rules fs b edit entry new e))

  pub make_root_has : (fs b : ℕ) (r : Result ℕ Refusal) → fs < 32 → Gives (make_root_of old fs b) old new r → HasLibrary T new
  make_root_has fs b r few given = gives_keeps (HasLibrary T) (make_root_of old fs b) old new r given has (λ entry e. has_still T old new has (model.make_root_keeps T old has.rules fs few b entry new e))

  pub forget_has : (fs b : ℕ) (r : Result (Unit {0}) Refusal) → GivesExactly (forget_of T old fs b) old new r → HasLibrary T new
  forget_has fs b r given = gives_exactly_keeps (HasLibrary T) (forget_of T old fs b) old new r given has (λ done e. has_still T old new has (model.forget_keeps T old has.rules fs b done new e))

-- types that mean the same are the library's
pub library_same : (T T' : Types) → ((t : ℕ) → 3 ≤ t → t ≤ 5 → IsTrue (T'.installed t) × (T'.owned t ≡ T.owned t) × (T'.size t ≡ T.size t)) → IsLibrary T → IsLibrary T'
library_same T T' same l =
    let three = same 3 (lit≤ tt) (lit≤ tt) in
    let four = same 4 (lit≤ tt) (lit≤ tt) in
    let five = same 5 (lit≤ tt) (lit≤ tt) in
    record {
      installed = λ t low high. (same t low high).0;
      root = λ m. ap (λ (f : List ℕ → List (ℕ × ℕ)). f m) three.1 ∙ l.root m;
      inodes = λ m. ap (λ (f : List ℕ → List (ℕ × ℕ)). f m) four.1 ∙ l.inodes m;
      indirect = λ m. ap (λ (f : List ℕ → List (ℕ × ℕ)). f m) five.1 ∙ l.indirect m;
      root_size = λ m. ap (λ (f : List ℕ → ℕ). f m) three.2 ∙ l.root_size m;
      inodes_size = λ m. ap (λ (f : List ℕ → ℕ). f m) four.2 ∙ l.inodes_size m;
      indirect_size = λ m. ap (λ (f : List ℕ → ℕ). f m) five.2 ∙ l.indirect_size m;
    }

-- with more types the library is there still
pub library_more : (T more : Types) → Extends T more → IsLibrary T → IsLibrary more
library_more T more x l = library_same T more (λ t low high. let there = l.installed t low high in (x.installed t there, x.owned t there, x.size t there)) l

foreign_no_crash : (e : Event) → IsForeign 0 e → is_crash e ≡ false
foreign_no_crash (Client fs c) q = refl
foreign_no_crash (Install m) q = refl
foreign_no_crash (Begin b) q = refl
foreign_no_crash (Land b) q = refl
foreign_no_crash (Fail b stays) q = refl
foreign_no_crash (Sync b) q = refl
foreign_no_crash (FailSync b) q = refl
foreign_no_crash (Finish b) q = refl
foreign_no_crash (Crash kept) q = absurd q

-- what stays for every file system
pub stays_kept : (T : Types) (old : StoreState) (T' : Types) (new : StoreState) (fs : ℕ) (volume : Option Volume) → Lasts T old T' new → IsKept T old fs volume → IsKept T' new fs volume
stays_kept T old T' new fs volume lasts k = record { library = lasts.has.library; few = k.few; keeps = lasts.keeps fs (array_of volume) k.few k.keeps; mine = k.mine }

pub event_stays : (w w' : World) (e : Event) (r : Reply) → IsEvent e → Holds w → Step w e r w' → ((fs : ℕ) → IsForeign fs e) → Stays (types_now w) w.state (types_now w') w'.state
event_stays w w' e r ok h s quiet has =
    let more = types_grow w e r w' ok (foreign_no_crash e (quiet 0)) h s in
    let has' : HasLibrary (types_now w') w'.state = record { rules = (step_keeps w e r w' ok h s).state; library = library_more (types_now w) (types_now w') more has.library } in
    record {
      has = has';
      keeps = λ fs array few v.
          let x = event_cuts fs w e r w' ok h s (quiet fs) in
          volume_from (types_now w) (types_now w') library_layout (library_reads (types_now w') has'.library) fs few array w.state w'.state has'.rules x.1 x.0 v;
    }

-- what the device does is no edit
pub device_event : (e : world_event.Event) → IsDevice e → IsEvent (event_of e) × ((fs : ℕ) → IsForeign fs (event_of e))
device_event (event.Install bytes) d = (d, λ fs. tt)
device_event (event.Begin block) d = (tt, λ fs. tt)
device_event (event.Land block) d = (tt, λ fs. tt)
device_event (event.Fail block stays) d = (tt, λ fs. tt)
device_event (event.Sync block) d = (tt, λ fs. tt)
device_event (event.FailSync block) d = (tt, λ fs. tt)
device_event (event.Finish block) d = (tt, λ fs. tt)
device_event (event.Call fs call) d = absurd d
device_event (event.Crash kept) d = absurd d

-- a volume that could not be made is closed, with its rules
pub make_kept : (T T' : Types) (old new : StoreState) (fs : ℕ) (volume : Option Volume) (fault : FfsFault) → T' ≡ T → IsKept T old fs volume → pending_of old fs ≡ 0 → (answer : Answer (Unit {0})) (stages : Stages) →
    Does T fs answer stages old new (Err fault) → (IsOk answer → VolumeKeeps T library_layout fs no_edits new) → IsKept T' new fs None
make_kept T T' old new fs volume fault e k idle answer stages does keeps = retyped T T' new fs None e (record { library = k.library; few = k.few; keeps = go answer does keeps; mine = tt })
  where
    go : (a : Answer (Unit {0})) → Does T fs a stages old new (Err fault) → (IsOk a → VolumeKeeps T library_layout fs no_edits new) → VolumeKeeps T library_layout fs no_edits new
    go (Ok next) h keeps = keeps refl
    go (Err f) h keeps = subst (VolumeKeeps T library_layout fs no_edits) (sym h.1)
        (opened_keeps T library_layout fs (array_of volume) old k.keeps (nothing_pending T library_layout fs (array_of volume) old k.keeps idle))
