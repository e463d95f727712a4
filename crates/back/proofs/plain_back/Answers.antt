-- `back::plain_back` meets its contract: what is taken back can be. Assumes nothing.
use mathlib.Core.Path.{sym, ◌∙◌}
use Rattle.back.proofs.Undoing.{undoable}
use Rattle.back.proofs.plain_back.Goals as goal

pub undo-requires : goal.undo-requires
undo-requires c =
    undoable _ _ _ _ (sym c.is_formed_record.ensures ∙ c.if-not-is_formed_record.false) c.if-r-eq0.false c.requires
    (sym c.can_drop.ensures ∙ c.if-not-can_drop.false)
