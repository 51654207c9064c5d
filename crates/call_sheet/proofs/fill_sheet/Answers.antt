-- `fill_sheet` meets its contract: section follows section.
use Rattle.paging.specs.Run.{progress_of}
use Rattle.paging.proofs.RunLaws.{inside_start, ◌follow◌}
use Rattle.call_sheet.proofs.ReplyLaws.{ran, ran_few}
use Rattle.call_sheet.proofs.fill_sheet.Goals as goal

pub head_section-head-requires : goal.head_section-head-requires
head_section-head-requires c = (rw c.start-start.ensures (inside_start c.args.n c.args.out.now), c.requires)

pub overflow_cast-result : goal.overflow_cast-result
unfolding progress_of
overflow_cast-result c = record {
  fits = ran_few c.args.file.now c.args.label.now c.args.n c.args.state c.requires.0.passed (ran c.args.file.now c.args.label.now c.args.n c.start-start.ensures
      (c.head_section-head.ensures follow c.result_section-results.ensures follow c.spectrum_section-spectrum.ensures follow c.statistics_section-statistics.ensures follow c.buffer_section-end.ensures));
}

pub returns : goal.returns
unfolding progress_of
returns c =
    ran c.args.file.now c.args.label.now c.args.n c.start-start.ensures
    (c.head_section-head.ensures follow c.result_section-results.ensures follow c.spectrum_section-spectrum.ensures follow c.statistics_section-statistics.ensures follow c.buffer_section-end.ensures)
