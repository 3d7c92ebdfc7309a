-- `watch::watch_in` meets its contract: the analysis, 12, then the reports. Assumes nothing.
use mathlib.Core.Path.{sym, ◌∙◌}
use native.Mathlib.Omega.{arith}
use Rattle.translate.proofs.Service.{analysed_text, analysed_refused}
use Rattle.watch.proofs.Service.{few_cells, watch_refused, watch_cut, watch_misfit, watch_counted, count_inside, watch_reported}
use Rattle.limits.proofs.Exits.{refused_as}
use Rattle.watch.proofs.watch_in.Goals as goal

pub overflow_add-size : goal.overflow_add-size
overflow_add-size c = record { fits = omega (arith, few_cells (analysed_text c.analyse.ensures c.in_ok-analysis.was)) }

pub returns-then-not-is_trace : goal.returns-then-not-is_trace
returns-then-not-is_trace c =
    let both = watch_cut _ _ _ (analysed_text c.analyse.ensures c.in_ok-analysis.was) (sym c.is_trace.ensures ∙ c.if-not-is_trace.true) in
    record { report_after = both.0; watched_within = both.1 }

pub returns-then-report-ne-REPORT_LENGTH : goal.returns-then-report-ne-REPORT_LENGTH
returns-then-report-ne-REPORT_LENGTH c =
    let both = watch_misfit _ _ _ (analysed_text c.analyse.ensures c.in_ok-analysis.was) (sym c.is_trace.ensures ∙ c.if-not-is_trace.false) c.if-report-ne-REPORT_LENGTH.true in
    record { report_after = both.0; watched_within = both.1 }

pub reports-requires : goal.reports-requires
reports-requires c =
    let x = analysed_text c.analyse.ensures c.in_ok-analysis.was in
    let e = sym c.is_trace.ensures ∙ c.if-not-is_trace.false in
    let f = c.if-report-ne-REPORT_LENGTH.false in
    record {
      counted_watches = watch_counted c.args.text.now c.args.trace.now c.args.report.now x e f;
      names_le_size = (omega arith, omega (arith, few_cells x), e);
      count_in_bounds = (count_inside c.args.text.now c.args.trace.now c.args.report.now x e f, c.requires.image_room_in_bounds.0, c.requires.image_room_in_bounds.1);
    }

pub returns : goal.returns
returns c =
    let x = analysed_text c.analyse.ensures c.in_ok-analysis.was in
    let e = sym c.is_trace.ensures ∙ c.if-not-is_trace.false in
    let both = watch_reported _ _ _ x e c.if-report-ne-REPORT_LENGTH.false _ (c.reports.ensures _ _ x.stand.read) in
    record { report_after = both.0; watched_within = both.1 }

pub returns-in_err-analysis : goal.returns-in_err-analysis
returns-in_err-analysis c =
    let both = watch_refused _ _ _ _ (analysed_refused c.analyse.ensures c.in_err-analysis.was) in
    rw (refused_as c.from_residual.ensures) (record { report_after = both.0; watched_within = both.1 })
