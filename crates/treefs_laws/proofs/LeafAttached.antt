-- A leaf with bytes is attached to a file where none was: its bytes stand behind those that were written before.
use mathlib.Core.Path.{fun_ext}
use Rattle.std.proofs.Common.{◌≡◌, ◌≢◌, ℕ, suc, ◌+◌, ◌-◌, ◌/◌, ◌%◌, ◌<◌, ◌≤◌, List, [], ◌∷◌, ◌++◌, length, None, Some, refl, sym, ◌∙◌, ap, inl, inr, arith, subst, if◌then◌else◌}
use Rattle.std.specs.Prelude.{All, map, ◌==◌}
use Rattle.std.specs.List.{range_with_len}
use Rattle.std.proofs.lemmas.Bool.{cases_eq, eq-eqb, le-ltb, ne_eqb}
use Rattle.std.proofs.lemmas.List.Elements.{All-replicate}
use Rattle.std.proofs.lemmas.List.{length-replicate}
use Rattle.xn_model.specs.BareDisks.{zeros}
use Rattle.xn_model.specs.Calls.{patched}
use Rattle.xn_model.specs.Lists.{put}
use Rattle.treefs_format.specs.Fields.{fields_of}
use Rattle.treefs_format.specs.Inodes.{kind_of}
use Rattle.treefs_format.specs.Leaves.{greatest_size}
use Rattle.treefs_format.specs.Nodes.{pointers_patch}
use Rattle.treefs_format.specs.Paths.{leaf_count, steps}
use Rattle.treefs_format.specs.declared.fields.Fields.{Fields}
use Rattle.treefs_format.specs.declared.kind.Kind.{Kind}
use Rattle.treefs_format.specs.declared.kind.Kind.TheVariants as kind
use Rattle.treefs_model.specs.Acts.{attach_act, one_patch, patch_act}
use Rattle.treefs_model.specs.Files.{changed_at}
use Rattle.treefs_model.specs.Reading.{block_at, byte_of, bytes_of, files_of, leaf_block, pointed}
use Rattle.treefs_lookup.specs.Buckets.{bucket_block, bucket_start}
use Rattle.treefs_lookup.specs.Bytes.{part_left}
use Rattle.treefs_edits.specs.Written.{written}
use Rattle.treefs_values.specs.Bytes.{bucket_at, place_in_bucket}
use Rattle.treefs_values.specs.Volumes.{IsVolume, IsWholeBlock}
use Rattle.treefs_values.specs.Ways.{IsWay, block_numbered}
use Rattle.treefs_values.proofs.ForCallers.{IsNew, New, same_listed, steps_way}
use Rattle.treefs_laws.proofs.Attaching.{attached, attached_byte, attached_fields, attached_files, attached_numbered, attached_there, attached_volume, other}
use Rattle.treefs_laws.proofs.OverFile.{IsOver, over_put, with_content}
use Rattle.treefs_laws.proofs.BlockAside.{alike_byte}
use Rattle.treefs_laws.proofs.UnledBytes.{filled, filled_above, filled_alike, filled_files, filled_itself, filled_numbered, filled_volume, filled_way}

module _ (node inode top : ℕ) (n : ℕ) (number : n ≢ 0) (b : ℕ) (there : b ≢ 0) (k : Kind)
    (no_directory : k ≢ kind.Directory)
    (content : ℕ → List ℕ) (block_is : block_numbered content top n ≡ b) (is_kind : kind_of (fields_of (content b)).mode ≡ Some k)
    (small : (fields_of (content b)).size ≤ greatest_size) (at : ℕ) where
  abbrev Over : (ℕ → ℕ) → List ℕ → (ℕ → List ℕ) → Type 0
  Over type bytes m = IsOver node inode top n number b there k no_directory content block_is is_kind small at type bytes m

  -- blocks that say the same of the file, and of its bytes
  pub over_same : (was type : ℕ → ℕ) (bytes : List ℕ) (m m' : ℕ → List ℕ) → Over was bytes m → IsVolume node inode type m' top → block_numbered m' top n ≡ b →
      fields_of (m' b) ≡ fields_of (m b) → files_of m' top ≡ files_of m top → ((p : ℕ) → p < greatest_size → byte_of m' b p ≡ byte_of m b p) → Over type
      bytes m'
  over_same was type bytes m m' o v block fields files same = record {
    volume = v;
    block = block;
    fields = fields ∙ o.fields;
    files_are = files ∙ (o.files_are ∙ ap (λ ys. changed_at (files_of content top) n (with_content ys)) (sym bytes_same));
    bytes_are = λ p low. same p low ∙ o.bytes_are p low;
  }
    where
      bytes_same : bytes_of m' b ≡ bytes_of m b
      bytes_same =
          ap (λ (g : Fields). map (byte_of m' b) (range_with_len 0 g.size)) fields
          ∙ same_listed (byte_of m' b) (byte_of m b) (fields_of (m b)).size
          (λ i lt. same i (let f : (fields_of (m b)).size ≤ greatest_size = subst (λ (g : Fields). g.size ≤ greatest_size) (sym o.fields) small in omega arith))

  module _ (type : ℕ → ℕ) (bytes : List ℕ) (m : ℕ → List ℕ) (o : Over type bytes m) (i : ℕ) (few : i < leaf_count) (off : ℕ) (above : List ℕ)
      (steps_are : steps i ≡ off ∷ above)
      (holder_there : block_at m b above ≢ 0) (none : pointed m (block_at m b above) off ≡ 0) (z : New) (new : IsNew node inode type m top z)
      (of_data : z.ty ≡ 2)
      (more : List ℕ) (range : All (λ b. b < 256) more) (some : 0 < length more) (high : 384 ≤ at + length bytes) (leaf_is : (at + length bytes) / 512 ≡ i)
      (fits : (at + length bytes) % 512 + length more ≤ 512) (z_bytes : z.bytes ≡ put (zeros 512) ((at + length bytes) % 512) more) where
    abbrev first : ℕ
    first = at + length bytes

    abbrev h : ℕ
    h = block_at m b above

    abbrev pub then_attached : ℕ → List ℕ
    then_attached = written (attach_act h off 2 (z.block ∷ []) None) m

    zeros_whole : IsWholeBlock (zeros 512)
    zeros_whole = (length-replicate {A = ℕ} 512 0, All-replicate (λ b. b < 256) 512 0 (omega arith))

    way : IsWay (off ∷ above) 0
    way = subst (λ os. IsWay os 0) steps_are (steps_way i)

    -- with zeros in the block
    abbrev m0 : ℕ → List ℕ
    m0 = filled node inode top type m o.volume z new of_data (zeros 512) zeros_whole

    v0 : IsVolume node inode type m0 top
    v0 = filled_volume node inode top type m o.volume z new of_data (zeros 512) zeros_whole

    abbrev z0 : New
    z0 = record { block = z.block; ty = 2; bytes = zeros 512 }

    new0 : IsNew node inode type m0 top z0
    new0 = filled_itself node inode top type m o.volume z new of_data (zeros 512) zeros_whole

    numbered0 : block_numbered m0 top n ≡ b
    numbered0 = filled_numbered node inode top type m o.volume z new of_data (zeros 512) zeros_whole n ∙ o.block

    abbrev h0 : ℕ
    h0 = block_at m0 (block_numbered m0 top n) above

    h0_is : h0 ≡ h
    h0_is =
        ap (λ x. block_at m0 x above) (filled_numbered node inode top type m o.volume z new of_data (zeros 512) zeros_whole n)
        ∙ (filled_above node inode top type m o.volume z new of_data (zeros 512) zeros_whole n 0 off above way ∙ ap (λ x. block_at m x above) o.block)

    h0_there : h0 ≢ 0
    h0_there e = holder_there (sym h0_is ∙ e)

    none0 : pointed m0 h0 off ≡ 0
    none0 =
        ap (λ x. block_at m0 x (off ∷ above)) (filled_numbered node inode top type m o.volume z new of_data (zeros 512) zeros_whole n)
        ∙ (filled_way node inode top type m o.volume z new of_data (zeros 512) zeros_whole n 0 (off ∷ above) way
        ∙ (ap (λ x. block_at m x (off ∷ above)) o.block ∙ none))

    no_node : (k : ℕ) → 0 ≡ suc k → z0.ty ≡ node
    no_node k e = absurd (omega (arith, e))

    as_data : ◌≡◌ {A = ℕ} 0 0 → z0.ty ≡ 2
    as_data e = refl

    as_zeros : ◌≡◌ {A = ℕ} 0 0 → z0.bytes ≡ zeros 512
    as_zeros e = refl

    abbrev m1 : ℕ → List ℕ
    m1 = attached node inode top type m0 v0 n number 0 off above way h0_there z0 new0 no_node as_data none0 2 None

    byte0 : (p : ℕ) → byte_of m0 b p ≡ byte_of m b p
    byte0 p = subst (λ x. byte_of m0 x p ≡ byte_of m x p) o.block
        (alike_byte m m0 (block_numbered m top n) (filled_alike node inode top type m o.volume z new of_data (zeros 512) zeros_whole n
        (λ e. there (sym o.block ∙ e))) p)

    fields0 : fields_of (m0 b) ≡ fields_of (m b)
    fields0 = subst (λ x. fields_of (m0 x) ≡ fields_of (m x)) o.block
        (ap fields_of (filled_alike node inode top type m o.volume z new of_data (zeros 512) zeros_whole n (λ e. there (sym o.block ∙ e))).own)

    over1 : Over type bytes m1
    over1 = over_same type type bytes m m1 o
        (attached_volume node inode top type m0 v0 n number 0 off above way h0_there z0 new0 no_node as_data none0 2 None as_zeros)
        (attached_numbered node inode top type m0 v0 n number 0 off above way h0_there z0 new0 no_node as_data none0 2 None ∙ numbered0)
        (subst (λ x. fields_of (m1 x) ≡ fields_of (m0 x)) numbered0 (attached_fields node inode top type m0 v0 n number 0 off above way h0_there z0
        new0 no_node as_data none0 2 None) ∙ fields0)
        (attached_files node inode top type m0 v0 n number 0 off above way h0_there z0 new0 no_node as_data none0 2 None as_zeros
        ∙ filled_files node inode top type m o.volume z new of_data (zeros 512) zeros_whole)
        (λ p low. subst (λ x. byte_of m1 x p ≡ byte_of m0 x p) numbered0
        (attached_byte node inode top type m0 v0 n number 0 off above way h0_there z0 new0 no_node as_data none0 2 None as_zeros p low) ∙ byte0 p)

    leaf1 : leaf_block m1 b i ≡ z.block
    leaf1 =
        ap (block_at m1 b) steps_are
        ∙ subst (λ x. block_at m1 x (off ∷ above) ≡ z.block) numbered0 (attached_there node inode top type m0 v0 n number 0 off above way h0_there z0
        new0 no_node as_data none0 2 None)

    -- and then the bytes
    bucket : bucket_at first ≡ first / 512 + 1
    bucket = ap (λ t. if t then 0 else first / 512 + 1) (le-ltb first 384 high)

    place : place_in_bucket first ≡ first % 512
    place = ap (λ t. if t then first else first % 512) (le-ltb first 384 high)

    left : part_left first ≡ 512 - first % 512
    left = ap (λ t. if t then 384 - first else 512 - first % 512) (le-ltb first 384 high)

    bucket_some : bucket_at first ≢ 0
    bucket_some e = absurd (omega (arith, e, bucket))

    less : bucket_at first - 1 ≡ i
    less = let e = bucket in let l = leaf_is in omega arith

    start : bucket_start (bucket_at first) ≡ 0
    start = ap (λ t. if t then 128 else 0) (ne_eqb (bucket_at first) 0 bucket_some)

    block_of : bucket_block m1 b (bucket_at first) ≡ z.block
    block_of = ap (λ t. if t then b else leaf_block m1 b (bucket_at first - 1)) (ne_eqb (bucket_at first) 0 bucket_some) ∙ (ap (leaf_block m1 b) less ∙ leaf1)

    few_there : bucket_at first ≤ leaf_count
    few_there = let e = bucket in let l = leaf_is in omega arith

    fits_there : length more ≤ part_left first
    fits_there = let e = left in omega arith

    offset_of : bucket_start (bucket_at first) + place_in_bucket first ≡ first % 512
    offset_of = let e = start in let p = place in omega arith

    abbrev last : ℕ → List ℕ
    last = written (patch_act z.block (one_patch (first % 512) more) None) m1

    over_last : Over type (bytes ++ more) last
    over_last = subst (Over type (bytes ++ more))
        (λ j. written (patch_act ((ap (λ x. bucket_block m1 x (bucket_at first)) over1.block ∙ block_of) j) (one_patch (offset_of j) more) None) m1)
        (over_put node inode top n number b there k no_directory content block_is is_kind small at type bytes m1 over1 more range some few_there
        fits_there
        (λ e. new.there (sym block_of ∙ e)) None)

    not_holder : z.block ≢ h
    not_holder e = other node inode top type m0 v0 n number 0 off above way h0_there z0 new0 no_node as_data none0 2 None (e ∙ sym h0_is)

    -- that is the block with its own bytes
    last_is : last ≡ then_attached
    last_is = fun_ext (λ x. elim (cases_eq x z.block) [
      | inl same ↦
          ap last same
          ∙ (ap (λ t. if t then patched (m1 z.block) (one_patch (first % 512) more) else m1 z.block) (eq-eqb z.block z.block refl)
          ∙ (ap (λ l. put l (first % 512) more) (ap (λ t. if t then patched (m0 z.block) (pointers_patch off (z.block ∷ []) ∷ []) else m0 z.block)
          (ne_eqb z.block h0 (λ e. not_holder (e ∙ h0_is))) ∙ ap (λ t. if t then zeros 512 else m z.block) (eq-eqb z.block z.block refl))
          ∙ (sym z_bytes ∙ (sym new.bytes
          ∙ (sym (ap (λ t. if t then patched (m z.block) (pointers_patch off (z.block ∷ []) ∷ []) else m z.block) (ne_eqb z.block h not_holder)) ∙
          ap then_attached (sym same))))))
      | inr ne ↦
          ap (λ t. if t then patched (m1 x) (one_patch (first % 512) more) else m1 x) (ne_eqb x z.block ne)
          ∙ (λ j. if x == h0_is j then patched (ap (λ t. if t then zeros 512 else m x) (ne_eqb x z.block ne) j) (pointers_patch off (z.block ∷ []) ∷ [])
          else ap (λ t. if t then zeros 512 else m x) (ne_eqb x z.block ne) j)
    ])

    pub leaf_over : Over type (bytes ++ more) then_attached
    leaf_over = subst (Over type (bytes ++ more)) last_is over_last
