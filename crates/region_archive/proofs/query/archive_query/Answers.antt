use mathlib.Core.Path.{refl, sym}
use native.Mathlib.Omega.{arith}
use Rattle.std.proofs.lemmas.Grind.{common_steps}
use Rattle.region_archive.specs.File.{FileMeaning}
use Rattle.region_archive.proofs.FileReads.{refusal_positive, read_anew}
use Rattle.region_archive.proofs.QueryLaws.{query_refused, query_outside, query_unknown, query_told}
use Rattle.region_archive.proofs.query.archive_query.Goals as goal

pub returns-in_err-read_over : goal.returns-in_err-read_over
returns-in_err-read_over c =
    let a = c.args in
    let e = c.in_err-read_over.field-0.0 in
    let told = λ (f : FileMeaning a.bytes.now). query_refused f a.location a.kind a.item a.version (c.in_err-read_over.ensures.says f).number (refusal_positive e) in
    λ f. grind (arith, common_steps, told f)

pub returns-in_default : goal.returns-in_default
returns-in_default c =
    let a = c.args in
    let h = read_anew c.in_ok-read_over.ensures in
    λ f. query_outside f a.location a.kind a.item a.version (h.says f).number (h.says f).next (sym c.region_of.ensures) c.in_default.is

pub returns-then-kind-gt2 : goal.returns-then-kind-gt2
returns-then-kind-gt2 c =
    let a = c.args in
    let h = read_anew c.in_ok-read_over.ensures in
    λ f. query_unknown f a.location a.kind a.item a.version (h.says f).number (h.says f).next (sym c.region_of.ensures) c.in-Some.is c.if-kind-gt2.true

pub returns : goal.returns
returns c =
    let a = c.args in
    let h = read_anew c.in_ok-read_over.ensures in
    λ f. query_told f a.location a.kind a.item a.version (h.says f).number (h.says f).next (sym c.region_of.ensures) c.in-Some.is
    c.if-kind-gt2.false h.valid.good c.regions_seeing.ensures c.has.ensures refl
