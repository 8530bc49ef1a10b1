use Rattle.xn_model.specs.Worlds.{Event, Client, Install, Begin, Land, Fail, Sync, FailSync, Finish, Crash}
use Rattle.std.specs.Prelude.{ℕ}
use Rattle.ffs_model.specs.Events.{IsOthers, is_still}
use Rattle.ffs_model.proofs.Events.{IsQuietEvent, event_kept}
use Rattle.ffs_model.proofs.Kept.{events_kept, kept_state}
use Rattle.ffs_model.proofs.events_keep_blocks.Goals as goal

others : (fs : ℕ) (e : Event) → IsOthers fs e → IsQuietEvent fs is_still (kept_state fs) (events_kept fs) e
others fs (Client x c) q = q
others fs (Install m) q = q
others fs (Begin b) q = q
others fs (Land b) q = q
others fs (Fail b stays) q = q
others fs (Finish b) q = q
others fs (Sync b) q = q
others fs (FailSync b) q = q
others fs (Crash kept) q = absurd q

pub returns : goal.returns
returns c = λ w e r after fs ok h s q. event_kept fs is_still (kept_state fs) (events_kept fs) w e r after ok h s (others fs e q)
