-- What laws of the layout say, for proofs here and above.
use Rattle.std.proofs.Common.{◌≡◌, ℕ, ◌+◌, ◌-◌, ◌*◌, ◌%◌, ◌&&◌, ◌<◌, ◌≤◌, ◌^◌, List, [], ◌∷◌, ◌++◌, ◌∙◌, Some, length, take, drop, not, refl, sym, ap, append_assoc, arith, inl, inr, length-append}
use Rattle.std.specs.Prelude.{All, IsTrue, flat_map, fold, nat_le, replicate}
use Rattle.std.specs.List.{list_all}
use Rattle.std.proofs.Math.Nat.{mod-lt}
use Rattle.std.proofs.lemmas.Bool.{and_parts, leb-true}
use Rattle.std.proofs.lemmas.Grind.{common_steps}
use Rattle.std.proofs.lemmas.List.{drop-append-le, drop-drop, drop-take, length-replicate, length-take-le}
use Rattle.xn_model.specs.BareDisks.{zeros}
use Rattle.xn_model.specs.Calls.{patched}
use Rattle.xn_model.specs.Lists.{put}
use Rattle.xn_model.specs.Root.{word_at}
use Rattle.treefs_format.specs.Buckets.{is_whole, made}
use Rattle.treefs_format.specs.Candidates.{candidate, first_bucket}
use Rattle.treefs_format.specs.Fields.{Change, Fields, IsInRange, are_adjoining, change_bytes, change_offset, changed, changes_patch, fields_of, first_offset}
use Rattle.treefs_format.specs.Inodes.{Kind, content_of, content_patch, inode_bytes, kind_of, mode_of, pointers_of}
use Rattle.treefs_format.specs.declared.kind.Kind.TheVariants.{Directory, File, SymbolicLink}
use Rattle.treefs_format.specs.Names.{is_dots, is_name, is_name_byte, is_name_length}
use Rattle.treefs_format.specs.Nodes.{children_of, node_bytes, pointers_patch}
use Rattle.treefs_format.specs.Numbers.{word_bytes, words_at}
use Rattle.treefs_format.specs.Paths.{last_beside, leaf_count, steps}
use Rattle.treefs_format.specs.Records.{Entry, entries_of}
use Rattle.treefs_format.proofs.Changes.{change_low, changes_made, changes_within, content_stays, fields_stay}
use Rattle.treefs_format.proofs.Levels.{buckets_of, next_first}
use Rattle.treefs_format.proofs.Made.{made_read, made_whole}
use Rattle.treefs_format.proofs.Parsed.{Fits}
use Rattle.treefs_format.proofs.Puts.{length-word_bytes, words_apart}

-- Leaves and their paths

pub paths_once : (i j : ℕ) → i < leaf_count → j < leaf_count → steps i ≡ steps j → i ≡ j
paths_once i j few few' same = grind (arith, common_steps)

pub leaves_beside : (i j o : ℕ) (holder : List ℕ) → j < leaf_count → i ≤ j → j ≤ last_beside i → steps i ≡ o ∷ holder → steps j ≡ (o + 4 * (j - i)) ∷ holder
leaves_beside i j o holder few low high is = grind (arith, common_steps)

-- Candidates of a name: a level ends before the next one begins

pub candidate_below : (hash level : ℕ) → candidate hash level < first_bucket (level + 1)
candidate_below hash level =
    let buckets = buckets_of level in
    let next = next_first level in
    let some : 0 < 8 ^ level = omega arith in
    let within = mod-lt hash some in
    omega arith

-- Bytes of the content are written: put behind the place from which on the rest is looked at

pub content_written : (m bytes : List ℕ) (at : ℕ) → length m ≡ 512 → at + length bytes ≤ 384 →
    content_of (patched m (content_patch at bytes ∷ [])) ≡ put (content_of m) at bytes
content_written m bytes at long fits =
    let front : length (take (128 + at) m) ≡ 128 + at = length-take-le (128 + at) m (omega arith) in
    let rest = drop (128 + at + length bytes) m in
    let sum : 128 + (at + length bytes) ≡ 128 + at + length bytes = omega arith in
    ap (drop 128) (append_assoc (take (128 + at) m) bytes rest)
    ∙ (drop-append-le 128 (take (128 + at) m) (bytes ++ rest) (omega arith)
    ∙ (ap (λ l. l ++ (bytes ++ rest)) (drop-take 128 at m)
    ∙ (ap (λ l. take at (drop 128 m) ++ (bytes ++ l)) (ap (λ k. drop k m) (sym sum) ∙ sym (drop-drop (at + length bytes) 128 m))
    ∙ sym (append_assoc (take at (drop 128 m)) bytes (drop (at + length bytes) (drop 128 m))))))

pub content_others : (m bytes : List ℕ) (at : ℕ) → length m ≡ 512 → at + length bytes ≤ 384 →
    (fields_of (patched m (content_patch at bytes ∷ [])) ≡ fields_of m) × (pointers_of (patched m (content_patch at bytes ∷ [])) ≡ pointers_of m)
content_others m bytes at long fits =
    (fields_stay m (128 + at) bytes long (omega arith) (omega arith), words_apart m (128 + at) bytes (omega arith) 48 20 (inl (omega arith)))

-- Fields are changed

pub fields_made : (m : List ℕ) (changes : List Change) → length m ≡ 512 → IsTrue (are_adjoining changes) → All IsInRange changes →
    fields_of (patched m (changes_patch changes ∷ [])) ≡ fold changed (fields_of m) changes
fields_made m [] long h few = changes_made [] m 0 long h few
fields_made m (c ∷ changes) long h few = changes_made (c ∷ changes) m (change_offset c) long h few

within_fields : (changes : List Change) → IsTrue (are_adjoining changes) → first_offset changes + length (flat_map change_bytes changes) ≤ 48
within_fields [] h = omega arith
within_fields (c ∷ changes) h = changes_within (c ∷ changes) (change_offset c) (change_low c) h

pub fields_others : (m : List ℕ) (changes : List Change) → length m ≡ 512 → IsTrue (are_adjoining changes) →
    (pointers_of (patched m (changes_patch changes ∷ [])) ≡ pointers_of m) × (content_of (patched m (changes_patch changes ∷ [])) ≡ content_of m)
fields_others m changes long h =
    let low = within_fields changes h in
    let bytes = flat_map change_bytes changes in
    (words_apart m (first_offset changes) bytes (omega arith) 48 20 (inr (omega arith)), content_stays m (first_offset changes) bytes long (omega arith))

-- Pointers of an inode are set

pub pointers_others : (m blocks : List ℕ) (i : ℕ) → length m ≡ 512 → i + length blocks ≤ 20 →
    (fields_of (patched m (pointers_patch (48 + 4 * i) blocks ∷ [])) ≡ fields_of m) × (content_of (patched m (pointers_patch (48 + 4 * i) blocks ∷ [])) ≡ content_of m)
pointers_others m blocks i long few =
    let size = length-word_bytes blocks in
    (fields_stay m (48 + 4 * i) (word_bytes blocks) long (omega arith) (omega arith), content_stays m (48 + 4 * i) (word_bytes blocks) long (omega arith))

-- New inodes and nodes

pub inode_long : (fields : Fields) (head : List ℕ) → length head ≤ 384 → length (inode_bytes fields head) ≡ 512
inode_long fields head short =
    let rest : length (zeros (384 - length head)) ≡ 384 - length head = length-replicate (384 - length head) 0 in
    let both = length-append head (zeros (384 - length head)) in
    omega arith

pub inode_pointers : (fields : Fields) (head : List ℕ) → pointers_of (inode_bytes fields head) ≡ replicate 20 0
unfolding words_at word_at
inode_pointers fields head = refl

pub inode_content : (fields : Fields) (head : List ℕ) → content_of (inode_bytes fields head) ≡ head ++ zeros (384 - length head)
inode_content fields head = refl

pub node_long : (t : ℕ) → length (node_bytes t) ≡ 512
node_long t = refl

pub node_children : (t : ℕ) → children_of (node_bytes t) ≡ replicate 127 0
unfolding words_at word_at
node_children t = refl

-- Modes

pub mode_kind : (kind : Kind) (permissions : ℕ) → permissions < 4096 → kind_of (mode_of kind permissions) ≡ Some kind
mode_kind kind permissions few = grind (arith, common_steps)

pub mode_permissions : (kind : Kind) (permissions : ℕ) → permissions < 4096 → mode_of kind permissions % 4096 ≡ permissions
mode_permissions kind permissions few = omega arith

pub mode_short : (kind : Kind) (permissions : ℕ) → permissions < 4096 → mode_of kind permissions < 2 ^ 16
mode_short Directory permissions few = omega arith
mode_short File permissions few = omega arith
mode_short SymbolicLink permissions few = omega arith

-- Records are made

named_fits : (e : Entry) → e.number < 2 ^ 32 → IsTrue (is_name e.name) → Fits e
named_fits e few named =
    let long = (and_parts (is_name_length (length e.name)) (list_all is_name_byte e.name && not (is_dots e.name)) named).0 in
    record { number = few; name = leb-true 1 (length e.name) (and_parts (nat_le 1 (length e.name)) (nat_le (length e.name) 255) long).0 }

pub records_made : (bytes : List ℕ) (e : Entry) → IsTrue (is_whole bytes) → All (λ b. b < 256) bytes → e.number < 2 ^ 32 → IsTrue (is_name e.name) →
    entries_of (made bytes e) ≡ entries_of bytes ++ e ∷ []
records_made bytes e clear range few named = made_read bytes e range (named_fits e few named) clear

pub records_whole : (bytes : List ℕ) (e : Entry) → IsTrue (is_whole bytes) → All (λ b. b < 256) bytes → e.number < 2 ^ 32 → IsTrue (is_name e.name) →
    IsTrue (is_whole (made bytes e))
records_whole bytes e clear range few named = made_whole bytes e range (named_fits e few named) clear
