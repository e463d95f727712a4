-- `name_of` meets its contract, tag by tag. Assumes nothing.
use Rattle.std.proofs.Common.{◌≤◌, arith}
use Rattle.std.proofs.lemmas.List.{get_or_past}
use Rattle.rules.specs.Lists.{text}
use Rattle.rules.specs.Console.{tag_name}
use Rattle.console.proofs.words.name_of.Goals as goal

pub returns-in-0 : goal.returns-in-0
unfolding tag_name text
returns-in-0 c = rw c.in-0.is

pub returns-in-1 : goal.returns-in-1
unfolding tag_name text
returns-in-1 c = rw c.in-1.is

pub returns-in-2 : goal.returns-in-2
unfolding tag_name text
returns-in-2 c = rw c.in-2.is

pub returns-in-3 : goal.returns-in-3
unfolding tag_name text
returns-in-3 c = rw c.in-3.is

pub returns-in-4 : goal.returns-in-4
unfolding tag_name text
returns-in-4 c = rw c.in-4.is

pub returns-in_default : goal.returns-in_default
unfolding tag_name text
returns-in_default c = let past : 5 ≤ c.args.tag = omega arith in rw get_or_past
