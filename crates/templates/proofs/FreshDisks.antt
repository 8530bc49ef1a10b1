-- A fresh disk: what its catalogue names, and that it is sound.
use Rattle.std.proofs.Common.{◌≡◌, ℕ, zero, suc, ◌++◌, suc, ◌+◌, ◌-◌, ◌≤◌, ◌<◌, ◌∙◌, ap, sym, refl, subst, true, cond, List, [], ◌∷◌, map, length, get_or, drop, replicate, length-append, inl, inr, arith}
use Rattle.std.specs.Prelude.{All, Contains, IsTrue, Option, Some, None, Ok, option_to_list, flat_map}
use Rattle.std.specs.List.{range_with_len}
use Rattle.std.specs.Result.{result_ok, is_ok}
use Rattle.std.specs.Option.{ForSome}
use Rattle.std.proofs.lemmas.Bool.{cases_lt, ne_eqb, and_from}
use Rattle.std.proofs.lemmas.List.{length-map, length-replicate, get_or_append_left, get_or-append_right, get_or-map, get_or-replicate, drop_all, append-nil}
use Rattle.std.proofs.lemmas.Option.{same_Some, none-some}
use Rattle.std.proofs.lemmas.List.FromFn.{fill_by_all, length-range_with_len}
use Rattle.xn_model.specs.Lists.{distinct, blank, blocks_of}
use Rattle.xn_model.specs.Types.{Types, fits}
use Rattle.xn_model.specs.Root.{marked, pointer, slot, unless_empty, templates_of, owned_by_root, HasBuiltIns}
use Rattle.xn_model.specs.Mounts.{IsRecovered, recovered, found, found_by, found_in, found_in_slot, mount_walk}
use Rattle.xn_model.specs.Images.{Reach, root, step, HasOneOwner, IsSound, IsDiskSize, block_of}
use Rattle.xn_model.proofs.ForCallers.{Contains-none, mount_holds, recovered_is}
use Rattle.xn_model.specs.BareDisks.{zeros, bare_root, bare_disk, mounted_disk}
use Rattle.xn_model.specs.Rules.{Holds}
use Rattle.templates.specs.Templates.{TemplateValue, IsTemplate, template_bytes}
use Rattle.templates.specs.BuiltIns.{built_in_root}
use Rattle.templates.specs.Reading.{template_of_bytes}
use Rattle.xn_model.specs.Languages.{types_in}
use Rattle.templates.specs.Language.{language}
use Rattle.templates.specs.Tables.{table_types, template_named, table_of_image}
use Rattle.templates.proofs.Meanings.{tables_are_catalogues}
use Rattle.templates.specs.Formats.{formatted_root, formatted, root_found, template_found, fresh_found, table_of}
use Rattle.templates.proofs.TablePlaces.{get_or-none}
use Rattle.templates.proofs.OneSpelling.{templates_are_read}
use Rattle.templates.proofs.BuiltInTypes.{tables_have_built_ins, template_size}
use Rattle.templates.proofs.WordsWritten.{length-template_bytes}
use Rattle.templates.proofs.FreshRoots.{named, length-named, get_or-named, distinct_named, root_owns, root_templates, root_clear, root_length, root_marked, pointer_named, pointer_blank, slot_blank}

pub formatted_without_templates : (count : ℕ) → formatted count [] ≡ bare_disk count
unfolding formatted formatted_root
formatted_without_templates count =
    let left : count - 1 - 0 ≡ count - 1 = omega arith in
    ap (λ n. bare_root count ∷ replicate n (zeros 512)) left

module _ (count : ℕ) (ts : List TemplateValue) (size : IsDiskSize count) (few : length ts ≤ 16) (all : All IsTemplate ts) where
  abbrev n : ℕ
  n = length ts

  abbrev content : ℕ → List ℕ
  content = block_of (formatted count ts)

  abbrev root_bytes : List ℕ
  root_bytes = formatted_root count n

  abbrev at : ℕ → TemplateValue
  at i = get_or ts i built_in_root

  content_root : content 0 ≡ root_bytes
  unfolding formatted
  content_root = refl

  content_template : (b i : ℕ) → b ≡ 1 + i → i < n → content b ≡ template_bytes (at i)
  unfolding formatted
  content_template b i e lt =
      let next : b ≡ suc i = omega arith in
      let long = length-map ts template_bytes in
      ap content next ∙ (get_or_append_left (map template_bytes ts) (replicate (count - 1 - n) (zeros 512)) [] i (omega arith) ∙ get_or-map template_bytes ts i built_in_root [] lt)

  template_read : (b i : ℕ) → b ≡ 1 + i → i < n → template_of_bytes (content b) ≡ Ok (at i)
  template_read b i e lt = ap template_of_bytes (content_template b i e lt) ∙ templates_are_read (at i) (all i built_in_root lt)

  place_named : (k b : ℕ) → b ≡ 1 + k → k < n → template_named content b ≡ Some (at k)
  place_named k b e lt =
      ap (λ t. cond t None (result_ok (template_of_bytes (content b)))) (ne_eqb b 0 (λ z. absurd (omega arith))) ∙ ap result_ok (template_read b k e lt)

  pointers_of : (k : ℕ) → pointer (content 0) k ≡ pointer root_bytes k
  pointers_of k = ap (λ m. pointer m k) content_root

  table_place : (k : ℕ) → k < 16 → get_or (table_of ts) k None ≡ template_named content (pointer (content 0) k)
  table_place k within = elim (cases_lt k n) [
    | inl lt ↦
        let long = length-map ts (λ (t : TemplateValue). Some t) in
        get_or_append_left (map Some ts) (replicate (16 - n) None) None k (omega arith)
        ∙ (get_or-map (λ (t : TemplateValue). Some t) ts k built_in_root None lt
        ∙ sym (place_named k (pointer (content 0) k) (pointers_of k ∙ pointer_named count n few k lt) lt))
    | inr past ↦
        get_or-append_right (map Some ts) (replicate (16 - n) None) n k None (length-map ts (λ (t : TemplateValue). Some t)) past
        ∙ (get_or-none (16 - n) (k - n)
        ∙ sym (ap (template_named content) (pointers_of k ∙ pointer_blank count n few k past)))
  ]

  table_length : length (table_of ts) ≡ 16
  table_length =
      let front = length-map ts (λ (t : TemplateValue). Some t) in
      let back = length-replicate {A = Option TemplateValue} (16 - n) None in
      length-append (map Some ts) (replicate (16 - n) None) ∙ omega arith

  places_are : (i : ℕ) → ForSome (get_or (table_of ts) i None) IsTemplate
  places_are i x h = elim (cases_lt i n) [
    | inl lt ↦
        let long = length-map ts (λ (t : TemplateValue). Some t) in
        let is = get_or_append_left (map Some ts) (replicate (16 - n) None) None i (omega arith) ∙ get_or-map (λ (t : TemplateValue). Some t) ts i built_in_root None lt in
        subst IsTemplate (same_Some (at i) x (sym is ∙ h)) (all i built_in_root lt)
    | inr past ↦
        let is = get_or-append_right (map Some ts) (replicate (16 - n) None) n i None (length-map ts (λ (t : TemplateValue). Some t)) past ∙ get_or-none (16 - n) (i - n) in
        absurd (none-some x (sym is ∙ h))
  ]

  table_is : table_of_image content ≡ table_of ts
  unfolding table_of_image
  table_is = sym (fill_by_all (λ k. template_named content (pointer (content 0) k)) (table_of ts) 16 None table_length table_place)

  -- There are so many blocks, each of 512 bytes

  blocks_count : length (formatted count ts) ≡ count
  unfolding formatted
  blocks_count =
      let least = size.0 in
      let front = length-map ts template_bytes in
      let back = length-replicate {A = List ℕ} (count - 1 - n) (zeros 512) in
      let both = length-append (map template_bytes ts) (replicate (count - 1 - n) (zeros 512)) in
      omega arith

  behind_root : (i : ℕ) (d : List ℕ) → i < count - 1 → length (get_or (map template_bytes ts ++ replicate (count - 1 - n) (zeros 512)) i d) ≡ 512
  behind_root i d lt = elim (cases_lt i n) [
    | inl named ↦
        let front = length-map ts template_bytes in
        ap length (get_or_append_left (map template_bytes ts) (replicate (count - 1 - n) (zeros 512)) d i (omega arith) ∙ get_or-map template_bytes ts i built_in_root d named)
        ∙ length-template_bytes (at i) (all i built_in_root named)
    | inr past ↦
        ap length (get_or-append_right (map template_bytes ts) (replicate (count - 1 - n) (zeros 512)) n i d (length-map ts template_bytes) past
        ∙ get_or-replicate (count - 1 - n) (i - n) (zeros 512) d (omega arith))
        ∙ length-replicate {A = ℕ} 512 0
  ]

  blocks_are_whole : All (λ block. length block ≡ 512) (formatted count ts)
  unfolding formatted
  blocks_are_whole zero d lt = root_length count n few
  blocks_are_whole (suc i) d lt = let whole = blocks_count in behind_root i d (omega arith)

  -- What is reached: block 0, and each template's block

  abbrev T : Types
  T = table_types (table_of ts)

  pub built_ins : HasBuiltIns T
  built_ins = tables_have_built_ins (table_of ts) (record { places = table_length; templates = places_are })

  root_names : T.owned 0 (content 0) ≡ named n
  root_names = built_ins.root_owns (content 0) ∙ (ap owned_by_root content_root ∙ root_owns count n few)

  -- a block with a type is block 0 or a template's
  data Known : ℕ → ℕ → Type 0 where
    is_root : {b t : ℕ} → b ≡ 0 → t ≡ 0 → Known b t
    is_template : {b t : ℕ} → (i : ℕ) → i < n → b ≡ 1 + i → t ≡ 1 → Known b t

  known_named : (c u : ℕ) → Contains (named n) (c, u) → (i : ℕ) × (i < n) × (c ≡ 1 + i) × (u ≡ 1)
  known_named c u h =
      let long = length-named n in
      let lt : h.0 < n = omega (arith, h.1) in
      let is : (1 + h.0, 1) ≡ (c, u) = sym (get_or-named n h.0 (c, u) lt) ∙ h.2 in
      (h.0, lt, (λ j. (sym is j).0), (λ j. (sym is j).1))

  -- what a known block names
  known_owns : (b t c u : ℕ) → Known b t → Contains (T.owned t (content b)) (c, u) → Contains (named n) (c, u)
  known_owns b t c u (is_root e f) h = subst (λ ps. Contains ps (c, u)) ((λ j. T.owned (f j) (content (e j))) ∙ root_names) h
  known_owns b t c u (is_template i lt e f) h =
      absurd (Contains-none (c, u) (subst (λ ps. Contains ps (c, u)) (ap (λ v. T.owned v (content b)) f ∙ built_ins.template_owns (content b)) h))

  reached : (c u : ℕ) → Reach T count content c u → Known c u
  reached c u root = is_root refl refl
  reached c u (step {b} {t} r lt is h) =
      let k = known_named c u (known_owns b t c u (reached b t r) h) in
      is_template k.0 k.1 k.2 k.3

  -- Each known block fits

  root_fits : fits T 0 (content 0) ≡ true
  root_fits = and_from _ _
      (ap (λ ps. distinct (blocks_of ps)) root_names ∙ distinct_named n)
      ((λ j. blank (drop (built_ins.root_size (content 0) j) (content_root j))) ∙ root_clear count n few)

  template_fits : (b i : ℕ) → b ≡ 1 + i → i < n → fits T 1 (content b) ≡ true
  template_fits b i e lt =
      let long = ap length (content_template b i e lt) ∙ length-template_bytes (at i) (all i built_in_root lt) in
      and_from _ _ (ap (λ ps. distinct (blocks_of ps)) (built_ins.template_owns (content b)))
      (ap (λ k. blank (drop k (content b))) (template_size (table_of ts) (content b)) ∙ ap blank (drop_all 512 (content b) (omega arith)))

  known_fits : (b t : ℕ) → Known b t → fits T t (content b) ≡ true
  known_fits b t (is_root e f) = (λ j. fits T (f j) (content (e j))) ∙ root_fits
  known_fits b t (is_template i lt e f) = ap (λ v. fits T v (content b)) f ∙ template_fits b i e lt

  -- Each named block has one owner

  root_count : length (T.owned 0 (content 0)) ≡ n
  root_count = ap length root_names ∙ length-named n

  abbrev block_at : ℕ → List (ℕ × ℕ) → ℕ
  block_at j ps = (get_or {A = ℕ × ℕ} ps j (0, 0)).0

  root_names_at : (j : ℕ) → j < n → (get_or (T.owned 0 (content 0)) j (0, 0)).0 ≡ 1 + j
  root_names_at j lt = ap (block_at j) root_names ∙ ap (λ (p : ℕ × ℕ). p.0) (get_or-named n j (0, 0) lt)

  only_owner : (b t j c i : ℕ) → c ≡ 1 + i → Known b t → j < length (T.owned t (content b)) → (get_or (T.owned t (content b)) j (0, 0)).0 ≡ c → (b ≡ 0) × (j ≡ i)
  only_owner b t j c i is (is_root e f) within names =
      let same : T.owned t (content b) ≡ T.owned 0 (content 0) = λ k. T.owned (f k) (content (e k)) in
      let few_names = ap length same ∙ root_count in
      let here = sym (root_names_at j (omega arith)) ∙ (ap (block_at j) (sym same) ∙ (names ∙ is)) in
      (e, omega arith)
  only_owner b t j c i is (is_template k lt e f) within names =
      let none = ap length (ap (λ v. T.owned v (content b)) f ∙ built_ins.template_owns (content b)) in
      absurd (omega arith)

  one_owner : (c i : ℕ) → c ≡ 1 + i → i < n → HasOneOwner T count content c
  one_owner c i is lt = record {
    owner = 0;
    place = i;
    owns = record { ty = 0; reached = root; within = (let long = root_count in omega arith); names = root_names_at i lt ∙ sym is };
    only = λ b j o. only_owner b o.ty j c i is (reached b o.ty o.reached) o.within o.names;
  }

  -- what a reached block names
  named_by : (b t c u : ℕ) → Reach T count content b t → Contains (T.owned t (content b)) (c, u) → (i : ℕ) × (i < n) × (c ≡ 1 + i) × (u ≡ 1)
  named_by b t c u r h = known_named c u (known_owns b t c u (reached b t r) h)

  sound : IsSound T count content
  unfolding table_types
  sound = record {
    size = size;
    long = ap length content_root ∙ root_length count n few;
    head = ap (marked count) content_root ∙ root_marked count n few (let most = size.1 in omega arith);
    templates = λ c u h.
        let k = known_named c u (subst (λ ps. Contains ps (c, u)) (ap templates_of content_root ∙ root_templates count n few) h) in
        let least = size.0 in
        (omega (arith, k.1, k.2), ap is_ok (template_read c k.0 k.2 k.1));
    fit = λ b t r. known_fits b t (reached b t r);
    range = λ b t c u r h.
        let k = named_by b t c u r h in
        let least = size.0 in
        (omega (arith, k.2), omega (arith, k.1, k.2));
    types = λ b t c u r h.
        let k = named_by b t c u r h in
        (omega (arith, k.3), subst (λ v. IsTrue (T.installed v)) (sym k.3) built_ins.template);
    owner = λ b t c u r h. let k = named_by b t c u r h in one_owner c k.0 k.2 k.1;
  }

  -- What a mount finds: block 0, and then the templates' blocks, which name nothing

  abbrev image : List (List ℕ)
  image = formatted count ts

  no_slots : (is : List ℕ) → flat_map (found_in_slot (content 0)) is ≡ []
  no_slots [] = refl
  no_slots (i ∷ is) =
      let empty : slot (content 0) i ≡ (0, 0) = ap (λ m. slot m i) content_root ∙ slot_blank count n few i in
      (λ j. found_by (Some 0) (Some i) (option_to_list (unless_empty (empty j))) ++ no_slots is j)

  found_named : (is : List ℕ) → found_by (Some 0) None (map (λ i. (1 + i, 1)) is) ≡ map template_found is
  found_named [] = refl
  found_named (i ∷ is) = ap (λ fs. template_found i ∷ fs) (found_named is)

  root_finds : found_in T image root_found ≡ map template_found (range_with_len 0 n)
  root_finds =
      (λ j. found_by (Some 0) None ((ap templates_of content_root ∙ root_templates count n few) j) ++ no_slots (range_with_len 0 32) j)
      ∙ (append-nil (found_by (Some 0) None (named n)) ∙ found_named (range_with_len 0 n))

  template_finds : (i : ℕ) → found_in T image (template_found i) ≡ []
  template_finds i =
      ap (λ t. cond t (found_by (Some 0) None (templates_of (content 0)) ++ flat_map (found_in_slot (content 0)) (range_with_len 0 32)) (found_by (Some (1 + i)) None (T.owned 1 (content (1 + i))))) (ne_eqb (1 + i) 0 (λ z. absurd (omega arith)))
      ∙ ap (found_by (Some (1 + i)) None) (built_ins.template_owns (content (1 + i)))

  walk_templates : (m : ℕ) (is : List ℕ) → length is ≤ m → mount_walk m T image (map template_found is) ≡ map template_found is
  walk_templates zero [] h = refl
  walk_templates zero (i ∷ is) h = absurd (omega arith)
  walk_templates (suc m) [] h = refl
  walk_templates (suc m) (i ∷ is) h = ap (λ fs. template_found i ∷ fs)
      (ap (mount_walk m T image) (ap (λ fs. map template_found is ++ fs) (template_finds i) ∙ append-nil (map template_found is)) ∙ walk_templates m is (omega arith))

  walk_root : (m : ℕ) → n + 1 ≤ m → mount_walk m T image (root_found ∷ []) ≡ fresh_found n
  walk_root zero h = absurd (omega arith)
  walk_root (suc m) h =
      let long = length-range_with_len 0 n in
      ap (λ fs. root_found ∷ fs) (ap (mount_walk m T image) root_finds ∙ walk_templates m (range_with_len 0 n) (omega arith))

  found_are : found T image ≡ fresh_found n
  found_are = let whole = blocks_count in let least = size.0 in walk_root (length image) (omega arith)

  whole_sound : IsSound T (length image) content
  whole_sound = subst (λ k. IsSound T k content) (sym blocks_count) sound

  pub mount_recovers : IsRecovered T image (recovered T image)
  mount_recovers = recovered_is T built_ins image whole_sound

  -- the types are those of its catalogue
  types_are : T ≡ types_in language content
  types_are = ap table_types (sym table_is) ∙ tables_are_catalogues content

  pub holds : Holds (mounted_disk language image)
  holds = mount_holds (mounted_disk language image) (subst (λ S. IsSound S (length image) content) types_are whole_sound) (recovered (types_in language content) image)
      (subst (λ S. IsRecovered S image (recovered S image)) types_are mount_recovers)

pub formatted_holds : (count : ℕ) (templates : List TemplateValue) → IsDiskSize count → length templates ≤ 16 → All IsTemplate templates →
    Holds (mounted_disk language (formatted count templates))
formatted_holds = holds

pub formatted_is_found : (count : ℕ) (templates : List TemplateValue) → IsDiskSize count → length templates ≤ 16 → All IsTemplate templates →
    found (table_types (table_of templates)) (formatted count templates) ≡ fresh_found (length templates)
formatted_is_found = found_are

pub formatted_has_its_blocks : (count : ℕ) (templates : List TemplateValue) → IsDiskSize count → length templates ≤ 16 → All IsTemplate templates →
    (length (formatted count templates) ≡ count) × All (λ block. length block ≡ 512) (formatted count templates)
formatted_has_its_blocks count ts size few all = (blocks_count count ts size few all, blocks_are_whole count ts size few all)

pub formatted_has_its_templates : (count : ℕ) (templates : List TemplateValue) → IsDiskSize count → length templates ≤ 16 → All IsTemplate templates →
    table_of_image (block_of (formatted count templates)) ≡ table_of templates
formatted_has_its_templates = table_is

pub formatted_is_sound : (count : ℕ) (templates : List TemplateValue) → IsDiskSize count → length templates ≤ 16 → All IsTemplate templates →
    IsSound (table_types (table_of templates)) count (block_of (formatted count templates))
formatted_is_sound = sound
