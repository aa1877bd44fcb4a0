use mathlib.Core.Path.{◌≡◌, sym, subst}
use mathlib.Core.List.{List}
use Prim.Native.Nat.{ℕ, ◌<◌}
use native.Mathlib.Omega.{arith}
use borrow.Author.Rules.{rules}
use lib.ListN.{get_or}
use Rattle.std.specs.Prelude.{Result, Err}
use Rattle.region_graph.specs.Calls.{first_no}
use Rattle.region_graph.specs.Refusals.{not_refused, answer_number}
use Rattle.region_graph.specs.declared.Graph.{Graph}
use Rattle.region_graph.specs.declared.refusals.Refusal.{Refusal}
use Rattle.region_archive.specs.Image.{latest}
use Rattle.region_archive.specs.File.{oldest, front_questions}
use Rattle.region_archive.specs.Promise.{Given, ReadsOver}
use Rattle.region_archive.specs.Sections.{BodyRead}
use Rattle.region_archive.proofs.FileReads.{stopped, refusal_positive, read_refused, body_reads, over_refused, over_accepted}
use Rattle.region_archive.proofs.BodyReads.{three_sections, body_made, no_body, no_regions, longer}
use Rattle.region_archive.proofs.BodyReads.{version_differs, bundles_missing, connections_missing}
use Rattle.region_archive.proofs.reading.read_over.Goals as goal

-- the front was asked what a read asks about it
pub returns-in_err-front : goal.returns-in_err-front
returns-in_err-front c =
    let k = c.in_err-front.field-0.0 in
    let e : c.from_residual.result ≡ Err k = search rules in
    let h = read_refused {s = c.args.bytes.now} k (λ f. stopped f c.in_err-front.ensures (refusal_positive k)) in
    let g = c.args.graph.now in
    subst (λ (r : Result Unit Refusal). ReadsOver g c.args.bytes.now (record { graph = g; number = answer_number r })) (sym e) (over_refused c.requires k h)

-- what the body gives is what the read gives
from_body : (s : List ℕ) → ((i : ℕ) → get_or s i 0 < 256) → not_refused ≡ first_no (front_questions oldest latest s)
    → {v : ℕ} → v ≡ get_or s 0 0 → {r : Result Graph Refusal} → BodyRead v s 5 r → Given s r
from_body s bytes z e {r} b = body_reads bytes z (subst (λ (v : ℕ). BodyRead v s 5 r) e b)

pub returns-in_default : goal.returns-in_default
returns-in_default c =
    let s = c.args.bytes.now in
    over_refused c.requires Refusal.BrokenLayout (from_body s (λ i. (c.type_inv.bytes i).fits) c.in_ok-front.ensures c.from-version.ensures
    (no_body (no_regions c.from-version.result s 5 c.in_default.ensures)))

pub returns-then-not-has_version : goal.returns-then-not-has_version
returns-then-not-has_version c =
    let s = c.args.bytes.now in
    over_refused c.requires Refusal.BrokenLayout (from_body s (λ i. (c.type_inv.bytes i).fits) c.in_ok-front.ensures c.from-version.ensures
    (no_body (version_differs c.from-version.result c.in-Some.ensures c.has_version.ensures c.if-not-has_version.true)))

pub returns-in_default-section_at : goal.returns-in_default-section_at
returns-in_default-section_at c =
    let s = c.args.bytes.now in
    over_refused c.requires Refusal.BrokenLayout (from_body s (λ i. (c.type_inv.bytes i).fits) c.in_ok-front.ensures c.from-version.ensures
    (no_body (bundles_missing c.from-version.result c.in-Some.ensures c.in_default-section_at.ensures)))

pub returns-in_default-section_at-2 : goal.returns-in_default-section_at-2
returns-in_default-section_at-2 c =
    let s = c.args.bytes.now in
    over_refused c.requires Refusal.BrokenLayout (from_body s (λ i. (c.type_inv.bytes i).fits) c.in_ok-front.ensures c.from-version.ensures
    (no_body (connections_missing c.from-version.result c.in-Some.ensures c.in-Some-section_at.ensures c.in_default-section_at-2.ensures)))

-- the three sections stand there, and the version is that of their model
pub returns-then-connections-bytes : goal.returns-then-connections-bytes
returns-then-connections-bytes c =
    let s = c.args.bytes.now in
    over_refused c.requires Refusal.BrokenLayout (from_body s (λ i. (c.type_inv.bytes i).fits) c.in_ok-front.ensures c.from-version.ensures
    (longer
    (three_sections c.from-version.result c.in-Some.ensures c.in-Some-section_at.ensures c.in-Some-section_at-2.ensures c.has_version.ensures
    c.if-not-has_version.false).parsed (λ e. omega (arith, e, c.if-connections-bytes.true))))

pub returns-in-Ok : goal.returns-in-Ok
returns-in-Ok c =
    let s = c.args.bytes.now in
    over_accepted
    (from_body s (λ i. (c.type_inv.bytes i).fits) c.in_ok-front.ensures c.from-version.ensures
    (body_made
    (three_sections c.from-version.result c.in-Some.ensures c.in-Some-section_at.ensures c.in-Some-section_at-2.ensures c.has_version.ensures
    c.if-not-has_version.false) c.if-connections-bytes.false c.in-Ok.ensures))

pub returns-in-Err : goal.returns-in-Err
returns-in-Err c =
    let s = c.args.bytes.now in
    over_refused c.requires c.in-Err.refusal
    (from_body s (λ i. (c.type_inv.bytes i).fits) c.in_ok-front.ensures c.from-version.ensures
    (body_made
    (three_sections c.from-version.result c.in-Some.ensures c.in-Some-section_at.ensures c.in-Some-section_at-2.ensures c.has_version.ensures
    c.if-not-has_version.false) c.if-connections-bytes.false c.in-Err.ensures))
