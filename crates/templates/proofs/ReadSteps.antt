-- How a reading goes on and how it ends, step by step.
use Rattle.std.proofs.Common.{◌≡◌, ◌≢◌, ℕ, ◌+◌, ◌≤◌, ◌<◌, ◌∙◌, ap, sym, Bool, true, false, not, List, take, drop}
use Rattle.std.specs.Prelude.{Result, Ok, Err, slice_range, bytes_eq, nat_le}
use Rattle.std.proofs.lemmas.Bool.{not-true, not-false, le-leb, lt-leb}
use Rattle.udf_code.specs.declared.word.Word.{Word}
use Rattle.udf_code.specs.Structure.{◌>>=◌}
use Rattle.udf_verify.specs.declared.fault.Role.TheVariants as role
use Rattle.udf_verify.specs.Program.{Program}
use Rattle.xn_model.specs.Lists.{blank}
use Rattle.templates.specs.declared.fault.TemplateFault.{TemplateFault}
use Rattle.templates.specs.declared.fault.TemplateFault.TheVariants.{NoMemory, BadMark, BadCode, BytesAfter}
use Rattle.templates.specs.Templates.{TemplateValue, template_mark}
use Rattle.templates.specs.Reading.{fault_unless, owns_count, size_count, owns_end, size_end, head_of, words_of_code, program_of_words, template_of_code, template_of_bytes}

-- a step that fails, and one that is done
step_err : {A B E : Type 0} (r : Result A E) (f : A → Result B E) (e : E) → r ≡ Err e → (r >>= f) ≡ Err e
step_err r f e h = ap (λ x. x >>= f) h

step_ok : {A B E : Type 0} (r : Result A E) (f : A → Result B E) (x : A) → r ≡ Ok x → (r >>= f) ≡ f x
step_ok r f x h = ap (λ y. y >>= f) h

pub demand_met : (t : Bool) (f : TemplateFault) → t ≡ true → fault_unless t f ≡ Ok (tt {0})
demand_met t f h = ap (λ b. fault_unless b f) h

demand_unmet : (t : Bool) (f : TemplateFault) → t ≡ false → fault_unless t f ≡ Err f
demand_unmet t f h = ap (λ b. fault_unless b f) h

-- The first four bytes

module _ (m mark : List ℕ) (ne : Bool) (is : mark ≡ template_mark) (test : ne ≡ not (bytes_eq (take 2 m) mark)) where
  differs : ne ≡ not (bytes_eq (take 2 m) template_mark)
  differs = test ∙ ap (λ xs. not (bytes_eq (take 2 m) xs)) is

  pub bad_mark : ne ≡ true → head_of m ≡ Err BadMark
  unfolding head_of
  bad_mark h = step_err _ _ BadMark (demand_unmet _ BadMark (not-true _ (sym differs ∙ h)))

  module _ (h : ne ≡ false) where
    right : fault_unless (bytes_eq (take 2 m) template_mark) BadMark ≡ Ok (tt {0})
    right = demand_met _ BadMark (not-false _ (sym differs ∙ h))

    pub bad_counts : 127 < owns_count m + size_count m → head_of m ≡ Err BadCode
    unfolding head_of
    bad_counts many = step_ok _ _ (tt {0}) right ∙ demand_unmet _ BadCode (lt-leb (owns_count m + size_count m) 127 many)

    pub good_head : owns_count m + size_count m ≤ 127 → head_of m ≡ Ok (tt {0})
    unfolding head_of
    good_head few = step_ok _ _ (tt {0}) right ∙ demand_met _ BadCode (le-leb (owns_count m + size_count m) 127 few)

demand_fault : (t : Bool) (f g : TemplateFault) → fault_unless t f ≡ Err g → f ≡ g
demand_fault true f g h = absurd (cc)
demand_fault false f g h = cc

pub head_wants_no_memory : (m : List ℕ) → head_of m ≢ Err NoMemory
unfolding head_of
head_wants_no_memory m h = by (bytes_eq (take 2 m) template_mark) h
  where
    by : (t : Bool) → (fault_unless t BadMark >>= (λ _. fault_unless (nat_le (owns_count m + size_count m) 127) BadCode)) ≡ Err NoMemory → ⊥
    by true h = let e = demand_fault _ BadCode NoMemory h in cc
    by false h = cc

-- Two programs

module _ (owns_code size_code : List ℕ) where
  pub owns_words_fault : (f : TemplateFault) → words_of_code owns_code ≡ Err f → template_of_code owns_code size_code ≡ Err f
  unfolding template_of_code
  owns_words_fault f h = step_err _ _ f h

  module _ (owns_words : List Word) (is_owns : words_of_code owns_code ≡ Ok owns_words) where
    pub size_words_fault : (f : TemplateFault) → words_of_code size_code ≡ Err f → template_of_code owns_code size_code ≡ Err f
    unfolding template_of_code
    size_words_fault f h = step_ok _ _ owns_words is_owns ∙ step_err _ _ f h

    module _ (size_words : List Word) (is_size : words_of_code size_code ≡ Ok size_words) where
      pub owns_fault : (f : TemplateFault) → program_of_words role.Owns owns_words ≡ Err f → template_of_code owns_code size_code ≡ Err f
      unfolding template_of_code
      owns_fault f h = step_ok _ _ owns_words is_owns ∙ (step_ok _ _ size_words is_size ∙ step_err _ _ f h)

      module _ (owns : Program) (owns_checked : program_of_words role.Owns owns_words ≡ Ok owns) where
        pub size_fault : (f : TemplateFault) → program_of_words role.Size size_words ≡ Err f → template_of_code owns_code size_code ≡ Err f
        unfolding template_of_code
        size_fault f h = step_ok _ _ owns_words is_owns ∙ (step_ok _ _ size_words is_size ∙ (step_ok _ _ owns owns_checked ∙ step_err _ _ f h))

        pub programs_read : (size : Program) → program_of_words role.Size size_words ≡ Ok size → template_of_code owns_code size_code ≡ Ok (record { owns = owns; size = size })
        unfolding template_of_code
        programs_read size h = step_ok _ _ owns_words is_owns ∙ (step_ok _ _ size_words is_size ∙ (step_ok _ _ owns owns_checked ∙ step_ok _ _ size h))

-- A block

module _ (m : List ℕ) where
  pub head_fault : (f : TemplateFault) → head_of m ≡ Err f → template_of_bytes m ≡ Err f
  unfolding template_of_bytes
  head_fault f h = step_err _ _ f h

  -- the ends of the two programs' code
  module _ (ends : ℕ × ℕ) (head : head_of m ≡ Ok (tt {0})) (are : ends ≡ (owns_end m, size_end m)) where
    -- the template of its code
    abbrev code_of : ℕ × ℕ → Result TemplateValue TemplateFault
    code_of (a, b) = template_of_code (slice_range m 4 a) (slice_range m a b)

    pub code_fault : (f : TemplateFault) → code_of ends ≡ Err f → template_of_bytes m ≡ Err f
    unfolding template_of_bytes
    code_fault f h = step_ok _ _ (tt {0}) head ∙ step_err _ _ f (ap code_of (sym are) ∙ h)

    module _ (t : TemplateValue) (read : code_of ends ≡ Ok t) where
      at_rest : template_of_bytes m ≡ (fault_unless (blank (drop (size_end m) m)) BytesAfter >>= (λ _. Ok t))
      unfolding template_of_bytes
      at_rest = step_ok _ _ (tt {0}) head ∙ step_ok _ _ t (ap code_of (sym are) ∙ read)

      rest_is : blank (drop ends.1 m) ≡ blank (drop (size_end m) m)
      rest_is = ap (λ (p : ℕ × ℕ). blank (drop p.1 m)) are

      pub bytes_after : blank (drop ends.1 m) ≡ false → template_of_bytes m ≡ Err BytesAfter
      bytes_after h = at_rest ∙ step_err _ _ BytesAfter (demand_unmet _ BytesAfter (sym rest_is ∙ h))

      pub block_read : blank (drop ends.1 m) ≡ true → template_of_bytes m ≡ Ok t
      block_read h = at_rest ∙ step_ok _ _ (tt {0}) (demand_met _ BytesAfter (sym rest_is ∙ h))
