-- The words are enough for the pairs of each list.
use native.Mathlib.Omega.{arith}
use Rattle.finding.specs.ListRows.{paired-more, paired-any}
use Rattle.finding.proofs.list_images.rows_for.Goals as goal

pub rows_in-requires : goal.rows_in-requires
rows_in-requires c =
    let job = c.args.job in
    let p = c.requires in
    (omega arith, p.0, p.1, p.2, λ v h. paired-more job.count job.sizes.now v c.words_for-words.result 128 c.if-words-le128.true (c.words_for-words.ensures v h), p.3, p.4)

pub rows_in-requires-then-words-le512 : goal.rows_in-requires-then-words-le512
rows_in-requires-then-words-le512 c =
    let job = c.args.job in
    let p = c.requires in
    (omega arith, p.0, p.1, p.2, λ v h. paired-more job.count job.sizes.now v c.words_for-words.result 512 c.if-words-le512.true (c.words_for-words.ensures v h), p.3, p.4)

pub rows_in-requires-then-words-le1024 : goal.rows_in-requires-then-words-le1024
rows_in-requires-then-words-le1024 c =
    let job = c.args.job in
    let p = c.requires in
    (omega arith, p.0, p.1, p.2, λ v h. paired-more job.count job.sizes.now v c.words_for-words.result 1024 c.if-words-le1024.true (c.words_for-words.ensures v h), p.3, p.4)

pub rows_in-requires-else-words-le1024 : goal.rows_in-requires-else-words-le1024
rows_in-requires-else-words-le1024 c =
    let job = c.args.job in
    let p = c.requires in
    (omega arith, p.0, p.1, p.2, λ v h. paired-any job.count job.sizes.now v p.0, p.3, p.4)
