-- The bytes of an inode's fields, written one field after the other.
use Rattle.std.proofs.Common.{◌≡◌, ℕ, ℤ, List, ◌∷◌, ◌∙◌, ap}
use Rattle.std.specs.Int.{w16, w32, w64, to_le_bytes}
use Rattle.xn_model.specs.BareDisks.{zeros}
use Rattle.xn_model.specs.Lists.{put}
use Rattle.treefs_format.specs.Fields.{Fields, field_bytes, time_bytes}

pub all_written : (f : Fields) (modified changed : ℤ) (mode links uid gid size mtime ctime parent all : List ℕ) →
    modified ≡ f.mtime → changed ≡ f.ctime → mode ≡ put (f.leaf_type ∷ f.node_type ∷ zeros 46) 2 (to_le_bytes w16 f.mode) → links ≡ put mode 4 (to_le_bytes w32 f.links) →
    uid ≡ put links 8 (to_le_bytes w32 f.uid) → gid ≡ put uid 12 (to_le_bytes w32 f.gid) → size ≡ put gid 16 (to_le_bytes w64 f.size) →
    mtime ≡ put size 24 (time_bytes modified) → ctime ≡ put mtime 32 (time_bytes changed) → parent ≡ put ctime 40 (to_le_bytes w32 f.parent) →
    all ≡ put parent 44 (to_le_bytes w32 f.generation) → all ≡ field_bytes f
all_written f modified changed mode links uid gid size mtime ctime parent all m n a b c d e g h i j =
    j ∙ ap (λ l. put l 44 (to_le_bytes w32 f.generation))
    (i ∙ ap (λ l. put l 40 (to_le_bytes w32 f.parent))
    (h ∙ (ap (λ t. put mtime 32 (time_bytes t)) n ∙ ap (λ l. put l 32 (time_bytes f.ctime))
    (g ∙ (ap (λ t. put size 24 (time_bytes t)) m ∙ ap (λ l. put l 24 (time_bytes f.mtime))
    (e ∙ ap (λ l. put l 16 (to_le_bytes w64 f.size))
    (d ∙ ap (λ l. put l 12 (to_le_bytes w32 f.gid))
    (c ∙ ap (λ l. put l 8 (to_le_bytes w32 f.uid))
    (b ∙ ap (λ l. put l 4 (to_le_bytes w32 f.links)) a)))))))))
