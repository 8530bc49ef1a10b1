-- A mount of a disk whose lanes are all at home.
use Rattle.std.proofs.Common.{◌≡◌, ◌⊎◌, ℕ, zero, suc, ◌*◌, false, List, [], ◌∷◌, map, length, replicate, Option, Some, None, Result, Ok, Err, refl, sym, ◌∙◌, ap, inl, inr, ⊎_elim, subst, slice_get}
use Rattle.std.specs.Prelude.{All, is_none}
use Rattle.std.specs.List.{AllByRecursion, list_any}
use Rattle.std.proofs.lemmas.Bool.{false≢true, or_from}
use Rattle.std.proofs.lemmas.Option.{same_Some, none-some}
use Rattle.std.proofs.lemmas.List.{length-replicate}
use Rattle.std.proofs.lemmas.List.Elements.{All-head, All-tail}
use Rattle.disk.specs.declared.lane.DeviceFault.{DeviceFault}
use Rattle.disk.specs.Lanes.{AreSynced}
use Rattle.disk.specs.Mem.{MemoryLane, memory_leaves, memory_read, memory_sync, synced}
use Rattle.xn_model.specs.Types.{Types}
use Rattle.xn_model.specs.Images.{block_of, blocks_in, joined, IsSound}
use Rattle.xn_model.specs.Lives.{Life, Lives, StoreState, life_at}
use Rattle.xn_model.specs.Lanes.{FitLives, HoldImage}
use Rattle.xn_model.specs.Flights.{flight_of}
use Rattle.xn_model.specs.Mounts.{IsRecovered, recovered}
use Rattle.xn_model.specs.BareDisks.{mounted_disk}
use Rattle.xn_model.specs.Rules.{Holds}
use Rattle.xn_model.proofs.ForCallers.{blocks_read, built_ins_in, length-joined, lanes_mounted, mount_holds, recovered_is}
use Rattle.image_model.specs.Walk.{verdict}
use Rattle.store_types.specs.declared.image_fault.ImageFault.{ImageFault}
use Rattle.store_types.specs.declared.image_fault.ImageFault.TheVariants.{NoMemory}
use Rattle.image_model.proofs.ForCallers.{verdict-unsound}
use Rattle.xn_kernel.specs.Kernels.{KernelValue, TicketValue}
use Rattle.templates.specs.Language.{language, types_of_image}
use Rattle.crash_check.specs.Reads.{Turn, IsTurn, IsTurnOf, is_failure, has_failed, is_missing, image_in}
use Rattle.crash_check.specs.Mounts.{IsFault, IsMounted, IsMountFault, kernel_of, state_of}
use Rattle.world.specs.Disks.{image_of, settled_image, given_to, ticket_at, IsCalm, IsAtRest, IsResting, IsUnmounted}
use Rattle.xn_model.specs.Worlds.{none_given}
use Rattle.world.specs.Worlds.{Tickets, value_of, world_with, ticket_flight, mounted_value, IsWorld}

abbrev Lanes : Type 0
Lanes = List (Option MemoryLane)

abbrev number : MemoryLane → ℕ
number l = l.number

abbrev bytes : MemoryLane → List ℕ
bytes l = l.bytes

abbrev faults : MemoryLane → ℕ
faults l = l.faults

-- What lanes at home hold

all_held : (lanes : Lanes) → AllByRecursion IsResting lanes → image_in bytes lanes ≡ image_of lanes (replicate (length lanes) None)
all_held [] home = refl
all_held (None ∷ lanes) home = absurd home.0
all_held (Some lane ∷ lanes) home = ap (λ bs. lane.bytes ∷ bs) (all_held lanes home.1)

hold_all : (lanes : Lanes) → AllByRecursion IsResting lanes → HoldImage bytes lanes (image_in bytes lanes)
hold_all [] home = tt
hold_all (None ∷ lanes) home = absurd home.0
hold_all (Some lane ∷ lanes) home = (refl, hold_all lanes home.1)

calm_at : (lanes : Lanes) → AllByRecursion IsResting lanes → (b : ℕ) (lane : MemoryLane) → slice_get lanes b ≡ Some (Some lane) → IsCalm lane × IsAtRest lane
calm_at [] home b lane at = absurd (none-some _ at)
calm_at (o ∷ lanes) home zero lane at = subst IsResting (same_Some o (Some lane) at) home.0
calm_at (o ∷ lanes) home (suc b) lane at = calm_at lanes home.1 b lane at

pub never_away : (P : Option MemoryLane → Type 0) → (P None → ⊥) → (lanes : Lanes) → AllByRecursion P lanes → (b : ℕ) → slice_get lanes b ≡ Some None → ⊥
never_away P not [] home b at = none-some _ at
never_away P not (o ∷ lanes) home zero at = not (subst P (same_Some o None at) home.0)
never_away P not (o ∷ lanes) home (suc b) at = never_away P not lanes home.1 b at

-- they hold no write
settled_rests : (lanes : Lanes) (tickets : Tickets) → AllByRecursion IsResting lanes → settled_image lanes tickets ≡ image_of lanes tickets
settled_rests [] tickets home = refl
settled_rests (None ∷ lanes) tickets home = absurd home.0
settled_rests (Some lane ∷ lanes) [] home = λ i. home.0.1.1 i ∷ settled_rests lanes [] home.1 i
settled_rests (Some lane ∷ lanes) (t ∷ tickets) home = λ i. home.0.1.1 i ∷ settled_rests lanes tickets home.1 i

given_rests : (lanes : Lanes) (tickets : Tickets) → AllByRecursion IsResting lanes → given_to lanes tickets ≡ none_given (image_of lanes tickets)
given_rests [] tickets home = refl
given_rests (None ∷ lanes) tickets home = absurd home.0
given_rests (Some lane ∷ lanes) [] home = λ i. home.0.1.0 i ∷ given_rests lanes [] home.1 i
given_rests (Some lane ∷ lanes) (t ∷ tickets) home = λ i. home.0.1.0 i ∷ given_rests lanes tickets home.1 i

pub lanes_synced : (lanes : Lanes) → AllByRecursion IsResting lanes → AreSynced bytes memory_leaves lanes
lanes_synced lanes home b lane at =
    let r = (calm_at lanes home b lane at).1 in
    λ left leaves. elim leaves [ inl settled ↦ settled ∙ r.1 | inr given ↦ absurd (none-some left (sym r.0 ∙ given)) ]

-- Their syncs and reads

still : (lane : MemoryLane) → IsAtRest lane → synced lane ≡ lane
still lane rest = λ i. record lane { settled = sym rest.1 i; given = sym rest.0 i }

turn_calm : (before after : Option MemoryLane) (answer : Option (Result (Unit {0}) DeviceFault)) (read : List ℕ) → IsTurnOf number bytes memory_leaves faults memory_sync memory_read before after answer read → IsResting before →
    (is_failure answer ≡ false) × (is_none answer ≡ false) × (after ≡ before)
turn_calm None after answer read is home = absurd home
turn_calm (Some old) None answer read is home = absurd is
turn_calm (Some old) (Some new) None read is home = absurd is
turn_calm (Some old) (Some new) (Some (Ok done)) read is home = elim is.gives [
  | inl both ↦ (refl, refl, ap (λ l. Some l) (both.2.1 ∙ (both.1.1 ∙ still old home.1)))
  | inr failed ↦ let bad = failed.1 in cc
]
turn_calm (Some old) (Some new) (Some (Err fault)) read is home = elim is.gives [
  | inl both ↦ absurd (false≢true (sym home.0.1 ∙ (sym (ap (λ (l : MemoryLane). l.read_fault) both.1.1) ∙ both.2.0)))
  | inr failed ↦ absurd (false≢true (sym home.0.2 ∙ failed.2.0))
]

turns_calm : (turns : List (Turn MemoryLane)) → All (IsTurn number bytes memory_leaves faults memory_sync memory_read) turns → AllByRecursion IsResting (map (λ t. t.before) turns) →
    (list_any has_failed turns ≡ false) × (list_any is_missing turns ≡ false) × (map (λ t. t.after) turns ≡ map (λ t. t.before) turns)
turns_calm [] each home = (refl, refl, refl)
turns_calm (t ∷ turns) each home =
    let first = turn_calm t.before t.after t.answer t.bytes (All-head (IsTurn number bytes memory_leaves faults memory_sync memory_read) t turns each) home.0 in
    let rest = turns_calm turns (All-tail (IsTurn number bytes memory_leaves faults memory_sync memory_read) t turns each) home.1 in
    (or_from (has_failed t) (list_any has_failed turns) first.0 rest.0, or_from (is_missing t) (list_any is_missing turns) first.1 rest.1, λ i. first.2 i ∷ rest.2 i)

-- No write is under way

no_ticket : (n b : ℕ) → ticket_at (replicate n None) b ≡ None
no_ticket zero b = refl
no_ticket (suc n) zero = refl
no_ticket (suc n) (suc b) = no_ticket n b

no_flight : (T : Types) (image : List (List ℕ)) (lives : Lives) → IsRecovered T image lives → (b : ℕ) → flight_of (life_at lives b) ≡ None
no_flight T image lives is b = go (life_at lives b) refl
  where
    go : (o : Option Life) → life_at lives b ≡ o → flight_of o ≡ None
    go None e = refl
    go (Some l) e = idle l (is.only b l e).idle
      where
        idle : (l : Life) → l.begun ≡ None → flight_of (Some l) ≡ None
        idle l e = ap (λ k. flight_of (Some (record l { begun = k }))) e

-- the lives of a mount of a sound disk, which begins with the rules
pub sound_recovers : (image : List (List ℕ)) → IsSound (types_of_image image) (length image) (block_of image) → IsRecovered (types_of_image image) image (recovered (types_of_image image) image)
sound_recovers image sound = recovered_is (types_of_image image) (built_ins_in language (block_of image)) image sound

pub mounted_holds : (image : List (List ℕ)) → IsSound (types_of_image image) (length image) (block_of image) → Holds (mounted_disk language image)
mounted_holds image sound = mount_holds (mounted_disk language image) sound (recovered (types_of_image image) image) (sound_recovers image sound)

module _ (lanes : Lanes) (tickets : Tickets) (is : IsUnmounted lanes tickets) where
  abbrev image : List (List ℕ)
  image = image_of lanes tickets

  abbrev T : Types
  T = types_of_image image

  image_is : image_in bytes lanes ≡ image
  image_is = all_held lanes is.home ∙ ap (image_of lanes) (sym is.empty)

  blocks_are : blocks_in (joined image) ≡ image
  blocks_are = blocks_read image is.long

  pub held_image : (bytes_of_disk : List ℕ) → image ≡ blocks_in bytes_of_disk → HoldImage bytes lanes (blocks_in bytes_of_disk)
  held_image bytes_of_disk given = subst (HoldImage bytes lanes) (image_is ∙ given) (hold_all lanes is.home)

  module _ (id : ℕ) where
    abbrev start : KernelValue MemoryLane
    start = kernel_of id lanes image

    start_value : value_of start tickets ≡ mounted_value image
    start_value = λ i. record (mounted_value image) { settled = settled_rests lanes tickets is.home i; given = given_rests lanes tickets is.home i }

    started : IsSound T (length image) (block_of image) → IsWorld (kernel_of id lanes image) tickets
    started sound =
        let found = sound_recovers image sound in
        record {
          holds = subst (λ v. Holds (world_with v)) (sym start_value) (mounted_holds image sound);
          fit = lanes_mounted bytes lanes T image (recovered T image) found (subst (HoldImage bytes lanes) image_is (hold_all lanes is.home));
          calm = calm_at lanes is.home;
          count = ap length is.empty ∙ length-replicate {A = Option (TicketValue MemoryLane)} (length lanes) None;
          flights = λ b. ap (λ (ts : Tickets). ticket_flight (ticket_at ts b)) is.empty ∙ (ap ticket_flight (no_ticket (length lanes) b) ∙ sym (no_flight T image (recovered T image) found b));
          mine = λ b ticket at. absurd (none-some ticket (sym (no_ticket (length lanes) b) ∙ (ap (λ (ts : Tickets). ticket_at ts b) (sym is.empty) ∙ at)));
        }

    -- The kernel of a mount

    module _ (kernel : KernelValue MemoryLane) (m : IsMounted number bytes memory_leaves faults memory_sync memory_read lanes id kernel) where
      lanes_stay : kernel.lanes ≡ lanes
      lanes_stay =
          let calm = turns_calm m.turns m.read.each (subst (AllByRecursion IsResting) m.read.before is.home) in
          m.read.after ∙ (calm.2 ∙ sym m.read.before)

      kernel_is : kernel ≡ kernel_of id lanes image
      kernel_is = m.value ∙ (λ i. kernel_of id (lanes_stay i) (image_is i))

      pub mount_sound : IsSound T (length image) (block_of image)
      mount_sound = subst (λ bs. IsSound T (length bs) (block_of bs)) blocks_are (subst (λ bs. IsSound (types_of_image bs) (length (blocks_in (joined bs))) (block_of (blocks_in (joined bs)))) image_is m.sound.blocks)

      pub mount_world : IsWorld kernel tickets
      mount_world = subst (λ k. IsWorld k tickets) (sym kernel_is) (started mount_sound)

      pub mount_value : value_of kernel tickets ≡ mounted_value image
      mount_value = ap (λ k. value_of k tickets) kernel_is ∙ start_value

  -- The kernel over what is known of its blocks

  module _ (blocks : List (List ℕ)) (view : image ≡ blocks) (sound : IsSound (types_of_image blocks) (length blocks) (block_of blocks)) (state : StoreState) (known : state ≡ state_of blocks) where
    sound_here : IsSound T (length image) (block_of image)
    sound_here = subst (λ bs. IsSound (types_of_image bs) (length bs) (block_of bs)) (sym view) sound

    known_here : state ≡ state_of image
    known_here = known ∙ ap state_of (sym view)

    pub known_fit : FitLives bytes lanes state.lives
    known_fit =
        subst (λ (s : StoreState). FitLives bytes lanes s.lives) (sym known_here)
        (lanes_mounted bytes lanes T image (recovered T image) (sound_recovers image sound_here) (subst (HoldImage bytes lanes) image_is (hold_all lanes is.home)))

    module _ (id : ℕ) (kernel : KernelValue MemoryLane) (k : kernel ≡ record { id = id; lanes = lanes; state = state }) where
      over_here : kernel ≡ kernel_of id lanes image
      over_here = k ∙ (λ i. record { id = id; lanes = lanes; state = known_here i })

      pub known_world : IsWorld kernel tickets
      known_world = subst (λ k. IsWorld k tickets) (sym over_here) (started id sound_here)

      pub known_value : value_of kernel tickets ≡ mounted_value blocks
      known_value = ap (λ k. value_of k tickets) over_here ∙ (start_value id ∙ ap mounted_value view)

  -- Its faults

  module _ (fault : ImageFault) (back : Lanes) (f : IsMountFault number bytes memory_leaves faults memory_sync memory_read lanes fault back) where
    judged : (back ≡ lanes) × ((fault ≡ NoMemory) ⊎ (verdict T (joined image) ≡ Err fault))
    judged = elim f [
      | inl none ↦ (none.1, inl none.0)
      | inr h ↦
          let calm = turns_calm h.0 h.1.each (subst (AllByRecursion IsResting) h.1.before is.home) in (
            h.1.after ∙ (calm.2 ∙ sym h.1.before),
            subst (λ bs. (fault ≡ NoMemory) ⊎ (verdict (types_of_image bs) (joined bs) ≡ Err fault)) image_is
                (subst (λ failed. IsFault failed false (image_in bytes lanes) fault) calm.0 (subst (λ missing. IsFault (list_any has_failed h.0) missing (image_in bytes lanes) fault) calm.1 h.2)),
          )
    ]

    pub back_unmounted : IsUnmounted back tickets
    back_unmounted = subst (λ ls. IsUnmounted ls tickets) (sym judged.0) is

    pub back_image : image_of back tickets ≡ image
    back_image = ap (λ ls. image_of ls tickets) judged.0

    pub back_fault : (fault ≡ NoMemory) ⊎ (verdict T (joined image) ≡ Err fault)
    back_fault = judged.1

    pub back_memory : IsSound T (length image) (block_of image) → fault ≡ NoMemory
    back_memory sound = ⊎_elim (λ none. none) (λ e. absurd (verdict-unsound T (built_ins_in language (block_of image)) (joined image) fault e (record {
      whole = length-joined image is.long ∙ ap (λ bs. 512 * length bs) (sym blocks_are);
      blocks = subst (λ bs. IsSound T (length bs) (block_of bs)) (sym blocks_are) sound;
    }))) judged.1
