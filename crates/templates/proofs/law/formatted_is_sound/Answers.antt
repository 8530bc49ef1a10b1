use Rattle.templates.proofs.FreshDisks.{formatted_is_sound}
use Rattle.templates.proofs.law.formatted_is_sound.Goals as goal

pub returns : goal.returns
returns c = formatted_is_sound
