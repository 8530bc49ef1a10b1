use Rattle.std.proofs.Common.{◌∙◌, sym}
use Rattle.std.proofs.lemmas.List.{get_or-replicate}
use Rattle.dependencies.proofs.HomeChanges.{clean_homes}
use Rattle.dependencies.proofs.LifeChanges.{clean_accounts}
use Rattle.dependencies.proofs.OldestChanges.{first_oldest}
use Rattle.dependencies.proofs.index.Index.at_rest.Goals as goal

pub returns : goal.returns
returns c = λ lives free clean none.
    let dirty = c.in_ok-dirty.ensures ∙ clean in
    record {
      counted = record { marked = free; counts = λ fs few. get_or-replicate 32 fs 0 0 few ∙ sym (none fs) };
      oldest = first_oldest lives 32;
      dirty = dirty;
      candidates = clean_accounts lives c.in_ok-dirty.dirty c.in_ok-candidates.candidates c.args.blocks dirty c.in_ok-dirty.ensures c.in_ok-candidates.ensures;
      homes = clean_homes lives c.in_ok-dirty.dirty c.in_ok-homes.homes c.args.blocks dirty c.in_ok-dirty.ensures;
    }
