-- Every step keeps the invariant, and so does every run.
use Rattle.std.proofs.Common.{ℕ, zero, suc, ◌+◌, ◌<◌, true, not, ◌&&◌, List, [], ◌∷◌, Option, Some, None, refl, sym, ◌≡◌, ◌∙◌, inl, inr, subst}
use Rattle.std.specs.Prelude.{is_some, length, IsTrue}
use Rattle.std.specs.List.{AllByRecursion, list_any}
use Rattle.std.proofs.lemmas.Bool.{cond_both}
use Rattle.xn_model.specs.Images.{IsSound, Reach, block_of}
use Rattle.xn_model.specs.Lives.{Lives, alive_and}
use Rattle.xn_model.specs.Results.{InFlight}
use Rattle.xn_model.specs.Mounts.{IsRecovered}
use Rattle.xn_model.specs.Calls.{init_of, propose_of, make_root_of, drop_root_of, install_of, forget_of, pick_of}
use Rattle.xn_model.specs.Worlds.{Started, Edited, Installed, Forgotten, Refused, World, types_now, types_on, types_there, Event, Client, Install, Begin, Land, Fail, Sync, FailSync, Finish, Crash, Call, Init, Propose, MakeRoot, DropRoot, Forget, Read, Root, Kind, Tainted, Pending, Floor, FreeCount, Pick, Drain, Reply, Drained, Down, call, install, act_up, is_crash, begin, land, sync, drain, drain_for, write_out, all_pending, mounted, none_given, crashed, left, MayLeave, Step, Run, AfterCall, AfterCrash, IsEvent}
use Rattle.xn_model.specs.Rules.{Holds, Agrees}
use Rattle.xn_model.proofs.Reached.{agreement, soundness, reached_owned, reached_installed}
use Rattle.xn_model.proofs.Lands.{told_keeps, next_fits, next_holds, begin_keeps, land_keeps, fail_keeps, sync_keeps, fail_sync_keeps, finish_keeps, left_placed, left_may}
use Rattle.xn_model.proofs.Flights.{flights_init, flights_propose, flights_make_root, flights_drop_root, flights_forget, flights_install}
use Rattle.xn_model.proofs.Ends.{forget_keeps}
use Rattle.xn_model.proofs.Edits.{propose_keeps}
use Rattle.xn_model.proofs.Init.{init_keeps}
use Rattle.xn_model.proofs.Roots.{make_root_keeps, drop_root_keeps}
use Rattle.xn_model.proofs.Install.{install_keeps}
use Rattle.xn_model.proofs.Mount.{mount_holds}

pub write_out_keeps : (w : World) → Holds w → (b : ℕ) → Holds (write_out w b)
write_out_keeps w h b = finish_keeps (sync (land (begin w b).1 b).1 b).1 (sync_keeps (land (begin w b).1 b).1 (land_keeps (begin w b).1 (begin_keeps w h b) b) b) b

drain_for_keeps : (n writes : ℕ) (w : World) → Holds w → Holds (drain_for n writes w).1
drain_for_keeps zero writes w h = h
drain_for_keeps (suc n) writes w h = go (pick_of w.state) (λ b. drain_for_keeps n (writes + 1) (write_out w b) (write_out_keeps w h b))
  where
    go : (o : Option ℕ) → ((b : ℕ) → Holds (drain_for n (writes + 1) (write_out w b)).1) → Holds (elim o as (λ x. ℕ × World) [ None ↦ (writes, w) | Some b ↦ drain_for n (writes + 1) (write_out w b) ]).1
    go None more = h
    go (Some b) more = more b

drain_keeps : (w : World) → Holds w → Holds (drain w).1
drain_keeps w h = cond_both {A = Reply × World} (list_any (alive_and (λ l. is_some l.begun)) w.state.lives) (Refused InFlight, w)
    (Drained (drain_for (all_pending w.state.lives) 0 w).0, (drain_for (all_pending w.state.lives) 0 w).1) (λ x. Holds x.1) (λ t. h) (λ t. drain_for_keeps (all_pending w.state.lives) 0 w h)

call_keeps : (w : World) → Holds w → (fs : ℕ) → fs < 32 → (c : Call) → Holds (call w fs c).1
call_keeps w h fs few (Init t m) = told_keeps Holds (λ made. Started made.0 made.1) w (init_of (types_now w) w.state fs t m) h (λ x e. next_holds w h x.1 (init_keeps (types_now w) w.state h.state fs t m x.0 x.1 e) (flights_init (types_now w) w.state x.1 fs t m x.0 e))
call_keeps w h fs few (Propose b e) = told_keeps Holds Edited w (propose_of (types_now w) w.state fs b e) h (λ x d. next_holds w h x.1 (propose_keeps (types_now w) w.state h.state fs b e x.0 x.1 d) (flights_propose (types_now w) w.state x.1 h.state fs b e x.0 d))
call_keeps w h fs few (MakeRoot b) = told_keeps Holds Edited w (make_root_of w.state fs b) h (λ x e. next_holds w h x.1 (make_root_keeps (types_now w) w.state h.state fs few b x.0 x.1 e) (flights_make_root (types_now w) w.state x.1 h.state fs b x.0 e))
call_keeps w h fs few DropRoot = told_keeps Holds Edited w (drop_root_of (types_now w) w.state fs) h (λ x e. next_holds w h x.1 (drop_root_keeps (types_now w) w.state h.state fs few x.0 x.1 e) (flights_drop_root (types_now w) w.state x.1 h.state fs x.0 e))
call_keeps w h fs few (Forget b) = told_keeps Holds (λ done. Forgotten) w (forget_of (types_now w) w.state fs b) h (λ x e. next_holds w h x.1 (forget_keeps (types_now w) w.state h.state fs b x.0 x.1 e) (flights_forget (types_now w) w.state x.1 fs b x.0 e))
call_keeps w h fs few (Read b) = h
call_keeps w h fs few Root = h
call_keeps w h fs few (Kind b) = h
call_keeps w h fs few (Tainted b) = h
call_keeps w h fs few Pending = h
call_keeps w h fs few Floor = h
call_keeps w h fs few FreeCount = h
call_keeps w h fs few Pick = h
call_keeps w h fs few Drain = drain_keeps w h

install_done : (w : World) → Holds w → (m : List ℕ) → length m ≡ 512 → Holds (install w m).1
install_done w h m whole = told_keeps Holds (λ made. Installed made.0 made.1 made.2 (made.2 + 1)) w (install_of w.language w.state m) h (λ x e.
    let k = install_keeps w.language w.state h.state m whole x.0 x.1 e in
    next_fits w h x.1 k.consistent k.count k.placed (flights_install w.language w.state x.1 m x.0 h.state whole e))

-- what act gives, or the world as it was
after_keeps : (w : World) (e : Event) (r : Reply) (w' : World) → Holds w → Holds (act_up w e).1 → AfterCall w e r w' → Holds w'
after_keeps w e r w' h done s = elim s [
  | inl given ↦ subst Holds (sym given.1) (cond_both {A = Reply × World} (w.down && not (is_crash e)) (Down, w) (act_up w e) (λ x. Holds x.1) (λ t. h) (λ t. done))
  | inr refused ↦ subst Holds (sym refused.1.1.1.1) h
]

put_down : (w : World) → Holds w → Holds (record w { down = true })
put_down w h = record { state = h.state; count = h.count; settled_count = h.settled_count; given_count = h.given_count; placed = h.placed; newest = h.newest; unsynced = h.unsynced }

-- the images that a crash may leave of such a world agree with the lives under the types of their own catalogue, and are sound
pub left_agrees : (w : World) → Holds w → (image : List (List ℕ)) → MayLeave w image → Agrees (types_on w image) (length image) (block_of image) w.state.lives
left_agrees w h image m = subst (λ n. Agrees (types_on w image) n (block_of image) w.state.lives) (sym (m.0 ∙ h.count)) (agreement w.language w.state h.state (block_of image) (left_placed w h image m))

pub left_sound : (w : World) → Holds w → (image : List (List ℕ)) → MayLeave w image → IsSound (types_on w image) (length image) (block_of image)
left_sound w h image m = subst (λ n. IsSound (types_on w image) n (block_of image)) (sym (m.0 ∙ h.count)) (soundness w.language w.state h.state (block_of image) (left_placed w h image m))

-- the types of reached blocks are those of the lives
pub left_owned : (w : World) → Holds w → (image : List (List ℕ)) → MayLeave w image → (c u : ℕ) → Reach (types_on w image) (length image) (block_of image) c u → (types_on w image).owned u ≡ (types_now w).owned u
left_owned w h image m c u r =
    reached_owned w.language w.state h.state (block_of image) (left_placed w h image m) c u (subst (λ n. Reach (types_on w image) n (block_of image) c u) (m.0 ∙ h.count) r)

pub left_installed : (w : World) → Holds w → (image : List (List ℕ)) → MayLeave w image → (c u : ℕ) → Reach (types_on w image) (length image) (block_of image) c u →
    IsTrue ((types_on w image).installed u) × IsTrue ((types_now w).installed u)
left_installed w h image m c u r =
    reached_installed w.language w.state h.state (block_of image) (left_placed w h image m) c u (subst (λ n. Reach (types_on w image) n (block_of image) c u) (m.0 ∙ h.count) r)

-- the newest bytes are among them
pub world_sound : (w : World) → Holds w → IsSound (types_there w) (length w.image) (block_of w.image)
world_sound w h = left_sound w h w.image h.newest

-- and so is what a crash leaves
pub crash_sound : (w : World) → Holds w → (kept : List ℕ) → IsSound (types_on w (left w kept)) (length (left w kept)) (block_of (left w kept))
crash_sound w h kept = left_sound w h (left w kept) (left_may w h kept)

crash_keeps : (w : World) (kept : List ℕ) (r : Reply) (w' : World) → Holds w → AfterCrash w kept r w' → Holds w'
crash_keeps w kept r w' h s =
    let m = mount_holds (crashed w kept) (crash_sound w h kept) s.0 s.1 in
    elim s.2 [ inl up ↦ subst Holds (sym up.1) m | inr down' ↦ subst Holds (sym down'.1) (put_down (mounted (crashed w kept) s.0) m) ]

-- the disk is what a crash left, at rest, with the lives that are read off it
pub crash_mounts : (w : World) (kept : List ℕ) (r : Reply) (w' : World) → AfterCrash w kept r w' →
    (w'.image ≡ left w kept) × (w'.settled ≡ w'.image) × (w'.given ≡ none_given w'.image) × IsRecovered (types_there w') w'.image w'.state.lives
crash_mounts w kept r w' s = elim s.2 [ inl up ↦ subst P (sym up.1) (refl, refl, refl, s.1) | inr down' ↦ subst P (sym down'.1) (refl, refl, refl, s.1) ]
  where
    P : World → Type 0
    P x = (x.image ≡ left w kept) × (x.settled ≡ x.image) × (x.given ≡ none_given x.image) × IsRecovered (types_there x) x.image x.state.lives

pub step_keeps : (w : World) (e : Event) (r : Reply) (w' : World) → IsEvent e → Holds w → Step w e r w' → Holds w'
step_keeps w (Client fs c) r w' few h s = after_keeps w (Client fs c) r w' h (call_keeps w h fs few c) s
step_keeps w (Install m) r w' whole h s = after_keeps w (Install m) r w' h (install_done w h m whole) s
step_keeps w (Begin b) r w' few h s = after_keeps w (Begin b) r w' h (begin_keeps w h b) s
step_keeps w (Land b) r w' few h s = after_keeps w (Land b) r w' h (land_keeps w h b) s
step_keeps w (Fail b stays) r w' few h s = after_keeps w (Fail b stays) r w' h (fail_keeps w h b stays) s
step_keeps w (Finish b) r w' few h s = after_keeps w (Finish b) r w' h (finish_keeps w h b) s
step_keeps w (Sync b) r w' few h s = after_keeps w (Sync b) r w' h (sync_keeps w h b) s
step_keeps w (FailSync b) r w' few h s = after_keeps w (FailSync b) r w' h (fail_sync_keeps w h b) s
step_keeps w (Crash kept) r w' few h s = crash_keeps w kept r w' h s

pub run_keeps : (w : World) (es : List Event) (rs : List Reply) (w' : World) → AllByRecursion IsEvent es → Holds w → Run w es rs w' → Holds w'
run_keeps w [] [] w' each h run = subst Holds (sym run) h
run_keeps w [] (r ∷ rs) w' each h run = absurd run
run_keeps w (e ∷ es) [] w' each h run = absurd run
run_keeps w (e ∷ es) (r ∷ rs) w' each h run = run_keeps run.0 es rs w' each.1 (step_keeps w e r run.0 each.0 h run.1) run.2

-- A disk that a mount opened
pub opened_holds : (w : World) (lives : Lives) → IsSound (types_there w) (length w.image) (block_of w.image) → IsRecovered (types_there w) w.image lives →
    (es : List Event) (rs : List Reply) (w' : World) → AllByRecursion IsEvent es → Run (mounted w lives) es rs w' → Holds w'
opened_holds w lives sound rec' es rs w' each run = run_keeps (mounted w lives) es rs w' each (mount_holds w sound lives rec') run
