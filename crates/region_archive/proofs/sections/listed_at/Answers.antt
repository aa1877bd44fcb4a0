use mathlib.Core.Path.{sym}
use Rattle.region_archive.proofs.sections.listed_at.Goals as goal

pub returns-in-Numbers : goal.returns-in-Numbers
returns-in-Numbers c = let f = c in
    rw (f.in-Numbers.is, sym f.list_form.ensures.0) c.list_at.ensures

pub returns-in-Packages : goal.returns-in-Packages
returns-in-Packages c = let f = c in
    rw (f.in-Packages.is, sym f.list_form-in-Packages.ensures.0) c.list_at-in-Packages.ensures

pub returns-in-BarePackages : goal.returns-in-BarePackages
returns-in-BarePackages c = let f = c in
    rw (f.in-BarePackages.is, sym f.list_form-in-BarePackages.ensures.0) c.list_at-in-BarePackages.ensures

pub returns-in-Entries : goal.returns-in-Entries
returns-in-Entries c = let f = c in
    rw (f.in-Entries.is, sym f.list_form-in-Entries.ensures.0) c.list_at-in-Entries.ensures

pub returns-in-BareEntries : goal.returns-in-BareEntries
returns-in-BareEntries c = let f = c in
    rw (f.in-BareEntries.is, sym f.list_form-in-BareEntries.ensures.0) c.list_at-in-BareEntries.ensures
