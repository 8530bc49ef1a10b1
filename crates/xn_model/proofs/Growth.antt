-- While a store runs its types stay, and an installed template adds one.
use Rattle.std.proofs.Common.{ap, ◌≡◌, ℕ, zero, suc, ◌+◌, ◌<◌, Bool, true, false, cond, not, ◌&&◌, List, length, Option, Some, None, refl, sym, ◌∙◌, inl, inr, subst}
use Rattle.std.specs.Prelude.{is_some, IsTrue}
use Rattle.std.specs.List.{list_any}
use Rattle.std.proofs.lemmas.Bool.{cond_both, false≢true}
use Rattle.xn_model.specs.Types.{Types}
use Rattle.xn_model.specs.Languages.{Extends}
use Rattle.xn_model.specs.Images.{IsSound, root, block_of}
use Rattle.xn_model.specs.Lives.{Lives, alive_and, on_disk, root_on_disk}
use Rattle.xn_model.specs.Results.{InFlight, NotSynced}
use Rattle.xn_model.specs.Mounts.{IsRecovered}
use Rattle.xn_model.specs.Calls.{latest, init_of, propose_of, make_root_of, drop_root_of, install_of, forget_of, begun_of, settled_of, pick_of}
use Rattle.xn_model.specs.Worlds.{Started, Edited, Installed, Forgotten, Refused, Begun, Landed, Synced, Fault, Finished, World, types_now, types_on, types_there, Event, Client, Install, Begin, Land, Fail, Sync, FailSync, Finish, Crash, Call, Init, Propose, MakeRoot, DropRoot, Forget, Read, Root, Kind, Tainted, Pending, Floor, FreeCount, Pick, Drain, Reply, Drained, Down, call, act_up, is_crash, begin, land, fail, sync, fail_sync, finish, read_back, write, settle_bytes, given_at, drain, drain_for, write_out, all_pending, mounted, crashed, left, Step, AfterCall, AfterCrash, IsEvent}
use Rattle.xn_model.specs.Root.{has_type}
use Rattle.xn_model.specs.Rules.{ArePlaced, Holds, IsKeptType, KeepsTypesThere, KeepsType}
use Rattle.xn_model.proofs.Catalogue.{on_disk_is}
use Rattle.xn_model.proofs.Languages.{same_installed, same_owned, same_size}
use Rattle.xn_model.proofs.Reached.{has_there, template_same}
use Rattle.xn_model.proofs.Lands.{told_keeps, on_ticket_keeps, begin_keeps, land_keeps, sync_keeps, left_may, left_placed}
use Rattle.xn_model.proofs.Begin.{begun_keeps}
use Rattle.xn_model.proofs.Ends.{forget_keeps, settled_keeps}
use Rattle.xn_model.proofs.Edits.{propose_keeps}
use Rattle.xn_model.proofs.Init.{init_keeps}
use Rattle.xn_model.proofs.Roots.{make_root_keeps, drop_root_keeps}
use Rattle.xn_model.proofs.Install.{install_keeps}
use Rattle.xn_model.proofs.Runs.{crash_sound, write_out_keeps}
use Rattle.xn_model.proofs.Mount.{types_recovered}

pub extends_self : (T : Types) → Extends T T
extends_self T = record { installed = λ t i. i; owned = λ t i. refl; size = λ t i. refl; template = refl }

-- the world has the same types, and those on the disk there
abbrev Same : World → World → Type 0
Same w w' = (types_now w' ≡ types_now w) × KeepsTypesThere w.state.lives w'.state.lives

still : (w : World) → Same w w
still w = (refl, λ t has. has)

same_then : (u v w : World) → Same u v → Same v w → Same u w
same_then u v w f g = (g.0 ∙ f.0, λ t has. g.1 t (f.1 t has))

same_begin : (w : World) → Holds w → (b : ℕ) → Same w (begin w b).1
same_begin w h b = told_keeps (Same w) (λ begun. Begun begun.1) w (begun_of w.state b) (still w) (λ x e. let k = begun_keeps (types_now w) w.state h.state b x.0 x.1 e in (k.types w.language, k.there))

same_land : (w : World) (b : ℕ) → Same w (land w b).1
same_land w b = on_ticket_keeps (Same w) w b (λ k. (Landed, write w b k true)) (still w) (λ l k e f. still w)

same_fail : (w : World) (b : ℕ) (stays : Bool) → Same w (fail w b stays).1
same_fail w b true = on_ticket_keeps (Same w) w b (λ k. (Fault, write w b k true)) (still w) (λ l k e f. still w)
same_fail w b false = on_ticket_keeps (Same w) w b (λ k. (Fault, write w b k false)) (still w) (λ l k e f. still w)

same_sync : (w : World) (b : ℕ) → Same w (sync w b).1
same_sync w b = on_ticket_keeps (Same w) w b (λ k. (Synced, settle_bytes w b)) (still w) (λ l k e f. still w)

same_fail_sync : (w : World) (b : ℕ) → Same w (fail_sync w b).1
same_fail_sync w b = on_ticket_keeps (Same w) w b (λ k. (Fault, w)) (still w) (λ l k e f. still w)

same_finish : (w : World) → Holds w → (b : ℕ) → Same w (finish w b).1
same_finish w h b = on_ticket_keeps (Same w) w b (λ k. cond (is_some (given_at w.given b)) (Refused NotSynced, w) (read_back w b)) (still w)
    (λ l k e f. cond_both {A = Reply × World} (is_some (given_at w.given b)) (Refused NotSynced, w) (read_back w b) (λ x. Same w x.1) (λ t. still w)
    (λ none. told_keeps (Same w) (λ done. Finished done.0 done.1) w (settled_of w.state b (block_of w.image b)) (still w) (λ x g. let k = settled_keeps (types_now w) w.state h.state b (block_of w.image b) x.0 x.1 g in (k.2 w.language, k.3))))

same_round : (w : World) → Holds w → (b : ℕ) → Same w (write_out w b)
same_round w h b =
    let began = begin_keeps w h b in
    let one = (begin w b).1 in
    let two = (land one b).1 in
    let landed = land_keeps one began b in
    let three = (sync two b).1 in
    same_then w two (finish three b).1 (same_then w one two (same_begin w h b) (same_land one b)) (same_then two three (finish three b).1 (same_sync two b) (same_finish three (sync_keeps two landed b) b))

same_rounds : (n writes : ℕ) (w : World) → Holds w → Same w (drain_for n writes w).1
same_rounds zero writes w h = still w
same_rounds (suc n) writes w h = go (pick_of w.state) (λ b. same_then w (write_out w b) (drain_for n (writes + 1) (write_out w b)).1 (same_round w h b) (same_rounds n (writes + 1) (write_out w b) (write_out_keeps w h b)))
  where
    go : (o : Option ℕ) → ((b : ℕ) → Same w (drain_for n (writes + 1) (write_out w b)).1) → Same w (elim o as (λ x. ℕ × World) [ None ↦ (writes, w) | Some b ↦ drain_for n (writes + 1) (write_out w b) ]).1
    go None more = still w
    go (Some b) more = more b

same_drain : (w : World) → Holds w → Same w (drain w).1
same_drain w h = cond_both {A = Reply × World} (list_any (alive_and (λ l. is_some l.begun)) w.state.lives) (Refused InFlight, w)
    (Drained (drain_for (all_pending w.state.lives) 0 w).0, (drain_for (all_pending w.state.lives) 0 w).1) (λ x. Same w x.1) (λ t. still w) (λ t. same_rounds (all_pending w.state.lives) 0 w h)

same_call : (w : World) → Holds w → (fs : ℕ) → fs < 32 → (c : Call) → Same w (call w fs c).1
same_call w h fs few (Init t m) = told_keeps (Same w) (λ made. Started made.0 made.1) w (init_of (types_now w) w.state fs t m) (still w) (λ x e. let k = init_keeps (types_now w) w.state h.state fs t m x.0 x.1 e in (k.types w.language, k.there))
same_call w h fs few (Propose b d) = told_keeps (Same w) Edited w (propose_of (types_now w) w.state fs b d) (still w) (λ x e. let k = propose_keeps (types_now w) w.state h.state fs b d x.0 x.1 e in (k.types w.language, k.there))
same_call w h fs few (MakeRoot b) = told_keeps (Same w) Edited w (make_root_of w.state fs b) (still w) (λ x e. let k = make_root_keeps (types_now w) w.state h.state fs few b x.0 x.1 e in (k.types w.language, k.there))
same_call w h fs few DropRoot = told_keeps (Same w) Edited w (drop_root_of (types_now w) w.state fs) (still w) (λ x e. let k = drop_root_keeps (types_now w) w.state h.state fs few x.0 x.1 e in (k.types w.language, k.there))
same_call w h fs few (Forget b) = told_keeps (Same w) (λ done. Forgotten) w (forget_of (types_now w) w.state fs b) (still w) (λ x e. let k = forget_keeps (types_now w) w.state h.state fs b x.0 x.1 e in (k.types w.language, k.there))
same_call w h fs few (Read b) = still w
same_call w h fs few Root = still w
same_call w h fs few (Kind b) = still w
same_call w h fs few (Tainted b) = still w
same_call w h fs few Pending = still w
same_call w h fs few Floor = still w
same_call w h fs few FreeCount = still w
same_call w h fs few Pick = still w
same_call w h fs few Drain = same_drain w h

-- the world has these types, and it may be more
abbrev Grows : World → World → Type 0
Grows w w' = Extends (types_now w) (types_now w') × KeepsTypesThere w.state.lives w'.state.lives

all_still : (w : World) → Grows w w
all_still w = (extends_self (types_now w), λ t has. has)

by_same : (w w' : World) → Same w w' → Grows w w'
by_same w w' e = (subst (Extends (types_now w)) (sym e.0) (extends_self (types_now w)), e.1)

grown : (w : World) (e : Event) (r : Reply) (w' : World) → Grows w (act_up w e).1 → AfterCall w e r w' → Grows w w'
grown w e r w' done s = elim s [
  | inl given ↦ subst (Grows w) (sym given.1) (cond_both {A = Reply × World} (w.down && not (is_crash e)) (Down, w) (act_up w e) (λ x. Grows w x.1) (λ t. all_still w) (λ t. done))
  | inr refused ↦ subst (Grows w) (sym refused.1.1.1.1) (all_still w)
]

step_grows : (w : World) (e : Event) (r : Reply) (w' : World) → IsEvent e → is_crash e ≡ false → Holds w → Step w e r w' → Grows w w'
step_grows w (Client fs c) r w' few ne h s = grown w (Client fs c) r w' (by_same w (call w fs c).1 (same_call w h fs few c)) s
step_grows w (Install m) r w' whole ne h s = grown w (Install m) r w'
    (told_keeps (Grows w) (λ made. Installed made.0 made.1 made.2 (made.2 + 1)) w (install_of w.language w.state m) (all_still w) (λ x e. let k = install_keeps w.language w.state h.state m whole x.0 x.1 e in (k.types, k.there))) s
step_grows w (Begin b) r w' few ne h s = grown w (Begin b) r w' (by_same w (begin w b).1 (same_begin w h b)) s
step_grows w (Land b) r w' few ne h s = grown w (Land b) r w' (by_same w (land w b).1 (same_land w b)) s
step_grows w (Fail b stays) r w' few ne h s = grown w (Fail b stays) r w' (by_same w (fail w b stays).1 (same_fail w b stays)) s
step_grows w (Sync b) r w' few ne h s = grown w (Sync b) r w' (by_same w (sync w b).1 (same_sync w b)) s
step_grows w (FailSync b) r w' few ne h s = grown w (FailSync b) r w' (by_same w (fail_sync w b).1 (same_fail_sync w b)) s
step_grows w (Finish b) r w' few ne h s = grown w (Finish b) r w' (by_same w (finish w b).1 (same_finish w h b)) s
step_grows w (Crash kept) r w' few ne h s = absurd (false≢true (sym ne))

pub types_grow : (w : World) (e : Event) (r : Reply) (w' : World) → IsEvent e → is_crash e ≡ false → Holds w → Step w e r w' → Extends (types_now w) (types_now w')
types_grow w e r w' ok up h s = (step_grows w e r w' ok up h s).0

-- a mount has those of the image
pub types_mounted : (w : World) (lives : Lives) → IsSound (types_there w) (length w.image) (block_of w.image) → IsRecovered (types_there w) w.image lives → types_now (mounted w lives) ≡ types_there w
types_mounted w lives sound r = types_recovered w.language w.image sound lives r

-- among them those that block 0 had on the disk

by_step : (w w' : World) → Grows w w' → (t : ℕ) → KeepsType w w' t
by_step w w' g t has there = record {
  there = g.1 t has;
  installed = g.0.installed t there;
  owned = g.0.owned t there;
  size = g.0.size t there;
}

module _ (w : World) (kept : List ℕ) (r : Reply) (w' : World) (h : Holds w) (s : AfterCrash w kept r w') where
  abbrev content : ℕ → List ℕ
  content = block_of (left w kept)

  placed_left : ArePlaced content w.state.lives
  placed_left = left_placed w h (left w kept) (left_may w h kept)

  -- the catalogue that the crash leaves is on the disk after it
  disk_left : root_on_disk w'.state.lives ≡ content 0
  disk_left =
      let lives : w'.state.lives ≡ s.0 = elim s.2 [ inl up ↦ ap (λ (x : World). x.state.lives) up.1 | inr down' ↦ ap (λ (x : World). x.state.lives) down'.1 ] in
      let m = s.1.all 0 0 root in
      ap root_on_disk lives ∙ on_disk_is s.0 m.0 (on_disk (content 0)) m.1 (s.1.only 0 m.0 m.1).durable

  crash_same : (t : ℕ) → IsTrue (has_type (root_on_disk w'.state.lives) t) → IsTrue ((types_now w).installed t) → IsKeptType w w' t
  crash_same t has installed =
      let L = w.language in
      let mounts = types_mounted (crashed w kept) s.0 (crash_sound w h kept) s.1 in
      let now : types_now w' ≡ types_on w (left w kept) = elim s.2 [ inl up ↦ ap types_now up.1 ∙ mounts | inr down' ↦ ap types_now down'.1 ∙ mounts ] in
      let same = template_same L w.state h.state content placed_left t (ap (λ x. has_type x t) (sym disk_left) ∙ has) in
      record {
        there = has;
        installed = ap (λ (T : Types). T.installed t) now ∙ (same_installed L (latest w.state.lives) content t same ∙ installed);
        owned = ap (λ (T : Types). T.owned t) now ∙ same_owned L (latest w.state.lives) content t same;
        size = ap (λ (T : Types). T.size t) now ∙ same_size L (latest w.state.lives) content t same;
      }

  crash_stays : (t : ℕ) → KeepsType w w' t
  crash_stays t has installed = crash_same t (ap (λ x. has_type x t) disk_left ∙ has_there w.language w.state h.state content placed_left t has) installed

pub types_stay : (w : World) (e : Event) (r : Reply) (w' : World) → IsEvent e → Holds w → Step w e r w' → (t : ℕ) → KeepsType w w' t
types_stay w (Client fs c) r w' ok h s = by_step w w' (step_grows w (Client fs c) r w' ok refl h s)
types_stay w (Install m) r w' ok h s = by_step w w' (step_grows w (Install m) r w' ok refl h s)
types_stay w (Begin b) r w' ok h s = by_step w w' (step_grows w (Begin b) r w' ok refl h s)
types_stay w (Land b) r w' ok h s = by_step w w' (step_grows w (Land b) r w' ok refl h s)
types_stay w (Fail b stays) r w' ok h s = by_step w w' (step_grows w (Fail b stays) r w' ok refl h s)
types_stay w (Sync b) r w' ok h s = by_step w w' (step_grows w (Sync b) r w' ok refl h s)
types_stay w (FailSync b) r w' ok h s = by_step w w' (step_grows w (FailSync b) r w' ok refl h s)
types_stay w (Finish b) r w' ok h s = by_step w w' (step_grows w (Finish b) r w' ok refl h s)
types_stay w (Crash kept) r w' ok h s = crash_stays w kept r w' h s

-- and those that it has there afterwards
by_same_step : (w w' : World) → Grows w w' → (t : ℕ) → IsTrue (has_type (root_on_disk w'.state.lives) t) → IsTrue ((types_now w).installed t) → IsKeptType w w' t
by_same_step w w' g t has there = record { there = has; installed = g.0.installed t there; owned = g.0.owned t there; size = g.0.size t there }

pub types_kept : (w : World) (e : Event) (r : Reply) (w' : World) → IsEvent e → Holds w → Step w e r w' → (t : ℕ) → IsTrue (has_type (root_on_disk w'.state.lives) t) → IsTrue ((types_now w).installed t) → IsKeptType w w' t
types_kept w (Client fs c) r w' ok h s = by_same_step w w' (step_grows w (Client fs c) r w' ok refl h s)
types_kept w (Install m) r w' ok h s = by_same_step w w' (step_grows w (Install m) r w' ok refl h s)
types_kept w (Begin b) r w' ok h s = by_same_step w w' (step_grows w (Begin b) r w' ok refl h s)
types_kept w (Land b) r w' ok h s = by_same_step w w' (step_grows w (Land b) r w' ok refl h s)
types_kept w (Fail b stays) r w' ok h s = by_same_step w w' (step_grows w (Fail b stays) r w' ok refl h s)
types_kept w (Sync b) r w' ok h s = by_same_step w w' (step_grows w (Sync b) r w' ok refl h s)
types_kept w (FailSync b) r w' ok h s = by_same_step w w' (step_grows w (FailSync b) r w' ok refl h s)
types_kept w (Finish b) r w' ok h s = by_same_step w w' (step_grows w (Finish b) r w' ok refl h s)
types_kept w (Crash kept) r w' ok h s = crash_same w kept r w' h s
