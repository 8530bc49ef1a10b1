-- Rows of commands, computed.
use Rattle.std.proofs.Common.{◌≡◌, refl}
use Rattle.xn_model.specs.Root.{word_at, pointer, with_pointer, slot, with_slot, templates_of, roots_of, owned_by_root}
use Rattle.xn_model.specs.Languages.{types_in}
use Rattle.xn_model.specs.Worlds.{replies}
use Rattle.xn_model.specs.BareDisks.{empty_language, bare_disk, mounted_disk}
use Rattle.xn_model.specs.Rows.{sent, answered, library, library_disk, first_row, dropped_row, landed_row, lost_row, open_lost_row, open_kept_row, synced_row, failed_sync_row, failed_kept_row, failed_new_row, failed_old_row, many_row, refused_row, after_row, drained_row, rolled_back_row, claimed_row, attached_row, chains, chain_disk, cycle_row, installed_row, used_row, gone_row, full_row, subtree_kept_row, subtree_lost_row}

pub first : replies (mounted_disk empty_language (bare_disk 32)) (sent first_row) ≡ answered first_row
unfolding types_in word_at pointer slot with_slot templates_of roots_of owned_by_root
first = refl

pub dropped : replies (mounted_disk empty_language (bare_disk 32)) (sent dropped_row) ≡ answered dropped_row
unfolding types_in word_at pointer slot with_slot templates_of roots_of owned_by_root
dropped = refl

pub landed : replies (mounted_disk empty_language (bare_disk 32)) (sent landed_row) ≡ answered landed_row
unfolding types_in word_at pointer slot with_slot templates_of roots_of owned_by_root
landed = refl

pub lost : replies (mounted_disk empty_language (bare_disk 32)) (sent lost_row) ≡ answered lost_row
unfolding types_in word_at pointer slot with_slot templates_of roots_of owned_by_root
lost = refl

pub open_lost : replies (mounted_disk empty_language (bare_disk 32)) (sent open_lost_row) ≡ answered open_lost_row
unfolding types_in word_at pointer slot with_slot templates_of roots_of owned_by_root
open_lost = refl

pub open_kept : replies (mounted_disk empty_language (bare_disk 32)) (sent open_kept_row) ≡ answered open_kept_row
unfolding types_in word_at pointer slot with_slot templates_of roots_of owned_by_root
open_kept = refl

pub synced : replies (mounted_disk empty_language (bare_disk 32)) (sent synced_row) ≡ answered synced_row
unfolding types_in word_at pointer slot with_slot templates_of roots_of owned_by_root
synced = refl

pub failed_sync : replies (mounted_disk empty_language (bare_disk 32)) (sent failed_sync_row) ≡ answered failed_sync_row
unfolding types_in word_at pointer slot with_slot templates_of roots_of owned_by_root
failed_sync = refl

pub failed_kept : replies (mounted_disk empty_language (bare_disk 32)) (sent failed_kept_row) ≡ answered failed_kept_row
unfolding types_in word_at pointer slot with_slot templates_of roots_of owned_by_root
failed_kept = refl

pub failed_new : replies (mounted_disk empty_language (bare_disk 32)) (sent failed_new_row) ≡ answered failed_new_row
unfolding types_in word_at pointer slot with_slot templates_of roots_of owned_by_root
failed_new = refl

pub failed_old : replies (mounted_disk empty_language (bare_disk 32)) (sent failed_old_row) ≡ answered failed_old_row
unfolding types_in word_at pointer slot with_slot templates_of roots_of owned_by_root
failed_old = refl

pub many : replies (mounted_disk empty_language (bare_disk 32)) (sent many_row) ≡ answered many_row
unfolding types_in word_at pointer slot with_slot templates_of roots_of owned_by_root
many = refl

pub refused : replies (mounted_disk empty_language (bare_disk 32)) (sent refused_row) ≡ answered refused_row
unfolding types_in word_at pointer slot with_slot templates_of roots_of owned_by_root
refused = refl

pub after : replies (mounted_disk empty_language (bare_disk 32)) (sent after_row) ≡ answered after_row
unfolding types_in word_at pointer slot with_slot templates_of roots_of owned_by_root
after = refl

pub drained : replies (mounted_disk empty_language (bare_disk 32)) (sent drained_row) ≡ answered drained_row
unfolding types_in word_at pointer slot with_slot templates_of roots_of owned_by_root
drained = refl

pub rolled_back : replies (mounted_disk library (library_disk 32)) (sent rolled_back_row) ≡ answered rolled_back_row
unfolding types_in word_at pointer slot with_slot templates_of roots_of owned_by_root
rolled_back = refl

pub claimed : replies (mounted_disk library (library_disk 32)) (sent claimed_row) ≡ answered claimed_row
unfolding types_in word_at pointer slot with_slot templates_of roots_of owned_by_root
claimed = refl

pub attached : replies (mounted_disk library (library_disk 32)) (sent attached_row) ≡ answered attached_row
unfolding types_in word_at pointer slot with_slot templates_of roots_of owned_by_root
attached = refl

pub cycle : replies (mounted_disk chains (chain_disk 3 32)) (sent cycle_row) ≡ answered cycle_row
unfolding types_in word_at pointer slot with_slot templates_of roots_of owned_by_root
cycle = refl

pub installed : replies (mounted_disk chains (bare_disk 32)) (sent installed_row) ≡ answered installed_row
unfolding types_in word_at pointer with_pointer slot with_slot templates_of roots_of owned_by_root
installed = refl

pub used : replies (mounted_disk chains (chain_disk 4 32)) (sent used_row) ≡ answered used_row
unfolding types_in word_at pointer with_pointer slot with_slot templates_of roots_of owned_by_root
used = refl

pub full : replies (mounted_disk chains (bare_disk 32)) (sent full_row) ≡ answered full_row
unfolding types_in word_at pointer with_pointer slot with_slot templates_of roots_of owned_by_root
full = refl

pub subtree_kept : replies (mounted_disk chains (bare_disk 32)) (sent subtree_kept_row) ≡ answered subtree_kept_row
unfolding types_in word_at pointer with_pointer slot with_slot templates_of roots_of owned_by_root
subtree_kept = refl

pub subtree_lost : replies (mounted_disk chains (bare_disk 32)) (sent subtree_lost_row) ≡ answered subtree_lost_row
unfolding types_in word_at pointer with_pointer slot with_slot templates_of roots_of owned_by_root
subtree_lost = refl

pub gone : replies (mounted_disk chains (bare_disk 32)) (sent gone_row) ≡ answered gone_row
unfolding types_in word_at pointer with_pointer slot with_slot templates_of roots_of owned_by_root
gone = refl
