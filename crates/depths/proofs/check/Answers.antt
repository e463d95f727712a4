-- `depths::check` meets its contract: what the two looks over the places lean on. Assumes nothing.
use Rattle.std.proofs.Common.{sym, ◌∙◌}
use Rattle.program.specs.Lent.{program_of}
use Rattle.depths.proofs.Rules.{table_longer}
use Rattle.depths.proofs.check.Goals as goal

pub first_forbidden-requires : goal.first_forbidden-requires
first_forbidden-requires c = table_longer (program_of c.args.p) (sym c.is_sound.ensures ∙ c.if-not-is_sound.false)

pub first_failing-requires : goal.first_failing-requires
first_failing-requires c =
    let sound = sym c.is_sound.ensures ∙ c.if-not-is_sound.false in
    record {
      table = sound;
      places = table_longer (program_of c.args.p) sound;
      long = c.if-depths-p.false;
      allows = sym c.in_default.ensures;
    }
