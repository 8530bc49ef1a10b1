-- Waves on a small disk, computed.
use Rattle.std.proofs.Common.{◌≡◌, [], ◌∷◌, refl}
use Rattle.xn_model.specs.Root.{word_at, pointer, with_pointer, slot, with_slot, templates_of, roots_of, owned_by_root}
use Rattle.xn_model.specs.Languages.{types_in}
use Rattle.xn_model.specs.Worlds.{replies}
use Rattle.xn_model.specs.Waves.{waves, flush}
use Rattle.xn_model.specs.WaveRows.{pending_world, typed_world, flush_replies, failed_events, failed_replies, old_events, old_replies}

pub all_at_once : waves 32 pending_world ≡ (1 ∷ 2 ∷ 3 ∷ []) ∷ (0 ∷ []) ∷ []
unfolding types_in word_at pointer slot with_slot templates_of roots_of owned_by_root
all_at_once = refl

pub by_two : waves 2 pending_world ≡ (1 ∷ 2 ∷ []) ∷ (0 ∷ 3 ∷ []) ∷ []
unfolding types_in word_at pointer slot with_slot templates_of roots_of owned_by_root
by_two = refl

pub by_one : waves 1 pending_world ≡ (1 ∷ []) ∷ (0 ∷ []) ∷ (2 ∷ []) ∷ (0 ∷ []) ∷ (3 ∷ []) ∷ []
unfolding types_in word_at pointer slot with_slot templates_of roots_of owned_by_root
by_one = refl

pub typed : waves 32 typed_world ≡ (3 ∷ 4 ∷ []) ∷ (0 ∷ []) ∷ (2 ∷ []) ∷ []
unfolding types_in word_at pointer with_pointer slot with_slot templates_of roots_of owned_by_root
typed = refl

pub answered : replies pending_world (flush 32 pending_world) ≡ flush_replies
unfolding types_in word_at pointer slot with_slot templates_of roots_of owned_by_root
answered = refl

pub failed : replies pending_world failed_events ≡ failed_replies
unfolding types_in word_at pointer slot with_slot templates_of roots_of owned_by_root
failed = refl

pub kept_old : replies pending_world old_events ≡ old_replies
unfolding types_in word_at pointer slot with_slot templates_of roots_of owned_by_root
kept_old = refl
