-- Each answer by its law. Assumes nothing.
use Rattle.std.proofs.Common.{◌≡◌, ◌∙◌, true, Ok, sym, ap, arith}
use Rattle.rules.specs.Table.{sound_table}
use Rattle.program.specs.Lent.{program_of}
use Rattle.rules.proofs.Table.{table_short, table_long}
use Rattle.rules.proofs.Packing.{pack_length, pack_broken, pack_done}
use Rattle.image.proofs.pack.Goals as goal

pub returns-then-image-ne-IMAGE_SIZE : goal.returns-then-image-ne-IMAGE_SIZE
returns-then-image-ne-IMAGE_SIZE c =
    let e = pack_length (program_of c.args.p) c.args.image.now c.if-image-ne-IMAGE_SIZE.true in
    record { answer = rw e; output = rw e }

pub returns-then-not-is_sound : goal.returns-then-not-is_sound
returns-then-not-is_sound c =
    let l = c.if-image-ne-IMAGE_SIZE.false in
    let e = pack_broken (program_of c.args.p) c.args.image.now l (sym c.is_sound.ensures ∙ c.if-not-is_sound.true) in
    record { answer = rw e; output = c.fill.ensures.after (λ y e. e) ∙ rw (l, e) }

pub write_image-requires : goal.write_image-requires
write_image-requires c =
    let p = program_of c.args.p in
    let s : sound_table p ≡ true = sym c.is_sound.ensures ∙ c.if-not-is_sound.false in
    (table_short p s, omega (arith, table_short p s, table_long p s), c.fill.ensures.after (λ y e. e) ∙ rw c.if-image-ne-IMAGE_SIZE.false)

pub returns : goal.returns
returns c =
    let e = pack_done (program_of c.args.p) c.args.image.now c.if-image-ne-IMAGE_SIZE.false (sym c.is_sound.ensures ∙ c.if-not-is_sound.false) in
    record { answer = ap Ok c.write_image.ensures.told ∙ rw e; output = c.write_image.ensures.bytes ∙ rw e }
