-- The tables of a job that the code for the images of its lists is lent.
use Rattle.finding.specs.declared.list_images.LentTables.{LentTables}
use Rattle.finding.specs.ListRows.{JobTables, job_tables}

abbrev pub lent_tables : LentTables → JobTables
lent_tables job =
    job_tables job.moves.now job.count job.labels job.follow.now job.enter.now job.sizes.now job.accepting.now
