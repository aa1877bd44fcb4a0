-- The demands hold of both interfaces.
use mathlib.Core.Path.{◌≡◌, refl, sym, ap, ◌∙◌, subst}
use mathlib.Core.Bool.{Bool, true, false}
use mathlib.Core.Logic.{inl, inr, ⊎_elim}
use mathlib.Core.List.{List, ◌∷◌}
use Prim.Native.Nat.{ℕ, ◌≤◌}
use native.Mathlib.Omega.{arith}
use lib.Dec.{leb}
use lib.ListN.{length, get_or}
use borrow.Author.Tests.{le-leb, leb-true, eq-eqb, ne_eqb}
use Rattle.region_graph.specs.Size.{regions}
use Rattle.region_graph.specs.Refusals.{not_refused, broken_layout}
use Rattle.region_graph.specs.Model.{Model, Legal}
use Rattle.region_graph.specs.Steps.{run_by, answers_by, Steps, none, more}
use Rattle.region_graph.specs.Lists.{pick, All, keep}
use Rattle.region_graph.specs.Calls.{Call, Question, first_no, questions, number, after, run, numbers}
use Rattle.region_graph.specs.Record.{Valid, meaning}
use Rattle.region_graph.specs.Promise.{place_of, Follows}
use Rattle.region_graph.specs.declared.Graph.{Graph}
use Rattle.region_graph.specs.declared.Item.{Item}
use Rattle.std.specs.Prelude.{Option, Some, None}
use Rattle.region_graph.proofs.Lists.{pick_yes, pick_no, false_true}
use Rattle.region_graph.proofs.Legal.{all_yes}
use Rattle.region_graph.proofs.Storing.{meaning_injective}
use Rattle.region_routes.specs.Chosen.{sees}
use Rattle.region_routes.specs.Hooks.{Outcome, item, kind_number, written, routed, kept, judged, shown_from, kept_outcome, is_installed, sees_from}
use Rattle.region_routes.specs.Hooks.{route_questions, route_outcome, find_questions, find_outcome, event_questions, event_outcome, Routed, Kept}
use Rattle.region_routes.specs.declared.resolver.Candidate.{Candidate}
use Rattle.region_routes.specs.Resolve.{is_offered, offered_from, places_for, resolved, resolve_questions, resolve_outcome}
use Rattle.region_archive.specs.Image.{latest, image, image_in, older_version}
use Rattle.region_archive.specs.File.{read_questions, read_model}
use Rattle.region_archive.specs.Promise.{archived, write_questions, seen_number, hidden_number, query_questions, Written}
use Rattle.region_archive.proofs.OneImage as images
use Rattle.region_archive.proofs.Versions.{in_cases, older_in}
use Rattle.region_archive.proofs.Meaning.{model_legal}
use Rattle.region_host.proofs.Given.{first_no_of, first_no_within}
use Rattle.demands.specs.Claim.{Seen, Offered, InstalledWhere, QuerySays, says_seen, says_unseen, written_parts}
use Rattle.demands.specs.Interface.{Interface, Started, from_empty, from_archive}
use Rattle.demands.specs.ByValue.{by_value}
use Rattle.demands.specs.Lent.{lent}
use Rattle.demands.specs.Demands.{Known, Questioned, RefusedAsAsked, HooksGiveNet, ArchiveInverts, Answers, WholeLists, QueriesAnswer, Demands}
use Rattle.demands.proofs.Claims.{sees_seen, seen_sees, listener_sees, sees_listener, shown_says, kept_says, kept_same, judged_kept, judged_number}
use Rattle.demands.proofs.Claims.{shown_number, resolve_judged}
use Rattle.demands.proofs.NetLaws.{seen_net, same_net, place_member}
use Rattle.demands.proofs.Exporters.{test_offered, offered_test, offered_net}
use Rattle.demands.proofs.Inverse.{accepted_model, accepted_image, image_accepted, others_refused, written_image, image_written}
use Rattle.demands.proofs.Meets.{Meets, meets_by_value, meets_lent}

-- ---- demand 1

-- each question has one of the numbers
changes_known : (m : Model) (k : Call) → Known (number m k)
changes_known m k = first_no_of Known (inl (omega arith)) (questions m k) (go k)
  where
    early : {n : ℕ} → leb n broken_layout ≡ true → Known n
    early {n} h = inl (leb-true n broken_layout h)

    go : (k : Call) → All (λ q. Known q.number) (questions m k)
    go (Call.add_region r) = (early refl, (early refl, tt))
    go (Call.remove_region r) = (early refl, (early refl, tt))
    go (Call.install b) = (early refl, (early refl, (early refl, (early refl, (early refl, (early refl, (early refl, tt)))))))
    go (Call.uninstall l) = (early refl, tt)
    go (Call.connect x) = (early refl, (early refl, (early refl, (early refl, (early refl, (early refl, (inr refl, (early refl, tt))))))))
    go (Call.disconnect r s) = (early refl, (early refl, (early refl, (early refl, tt))))

within : {n k : ℕ} → n ≡ k → k ≤ broken_layout → n ≤ broken_layout
within e h = omega (arith, e, h)

-- a query whose outcome goes by its questions
asked : {A E : Type 0} (refused : ℕ → A) (qs : List Question) (o : Outcome A E) (entry : E) (x : Outcome A E)
    → All (λ q. q.number ≤ broken_layout) qs → o.returned.number ≡ not_refused → x ≡ judged refused (first_no qs) o entry
    → Questioned qs x.returned.number entry x.exit
asked {A} {E} refused qs o entry x a z e =
    let n : x.returned.number ≡ first_no qs = ap (λ (y : Outcome A E). y.returned.number) e ∙ judged_number refused (first_no qs) o entry z in
    record {
      first = n;
      known = inl (within n (first_no_within broken_layout qs a));
      kept = λ u. ap (λ (y : Outcome A E). y.exit) e ∙ judged_kept refused (first_no qs) o entry (λ k. u (n ∙ k));
    }

pub refused_as_asked : {c : Interface} → Meets c → RefusedAsAsked c
refused_as_asked t =
    record {
      changes = λ {g} {h} {k} {n} p.
          let f = t.changes p in
          record { first = f.number; known = subst Known (sym f.number) (changes_known (meaning g) k); kept = f.kept };
      reads = λ {s} {g} {h} {n} p f.
          let r = t.reads p in
          record {
            first = (r.says f).number;
            known =
                inl (within (r.says f).number
                (first_no_within broken_layout (read_questions f) (omega arith, (omega arith, (omega arith, tt)))));
            kept = r.kept;
          };
      writes = λ {g} {entry} {exit} {a} v p.
          let i = image (meaning g) in
          asked Written.Refused (write_questions (meaning g) entry) (archived (Written.Bytes (length i)) (written i entry)) entry (archived a exit)
          (omega arith, tt) refl (t.writes v p);
      routes = λ {g} {l} {kind} {number} {version} {entry} {exit} {a} p.
          let m = meaning g in
          asked Routed.Refused (route_questions m l kind entry) (shown_from m (item kind number version) (place_of m.bundles l) entry) entry
          (routed a exit) (omega arith, (omega arith, (omega arith, tt))) (shown_number m (item kind number version) (place_of m.bundles l) entry)
          (t.routes p);
      finds = λ {g} {k} {l} {xs} {entry} {exit} {a} p.
          let m = meaning g in
          asked Kept.Refused (find_questions m l xs entry)
          (kept_outcome (keep (λ n. sees_from m (item (kind_number k) n 0) (place_of m.bundles l)) xs) entry) entry (kept a exit)
          (omega arith, (omega arith, tt)) refl (t.finds p);
      events = λ {g} {k} {number} {xs} {entry} {exit} {a} p.
          let m = meaning g in
          asked Kept.Refused (event_questions m xs entry)
          (kept_outcome (keep (λ l. sees_from m (item (kind_number k) number 0) (place_of m.bundles l)) xs) entry) entry (kept a exit)
          (omega arith, (omega arith, tt)) refl (t.events p);
      resolves = λ {g} {l} {xs} {entries} {exits} {a} p.
          let m = meaning g in
          asked Kept.Refused (resolve_questions m l xs entries)
          (resolved (keep (λ x. offered_from m x (place_of m.bundles l)) xs) entries) entries (kept a exits)
          (omega arith, (omega arith, tt)) refl (t.resolves p);
      asks = λ {s} {l} {kind} p f u.
          let n = first_no (query_questions f l kind) in
          let e = t.asks p f ∙ pick_no _ n (ne_eqb n not_refused u) in (
            e,
            within e (
                first_no_within broken_layout (query_questions f l kind) (omega arith, (omega arith, (omega arith, (omega arith, (omega arith, tt)))))),
          );
    }

-- ---- demand 3

-- the record is valid and means the model
pub record Means (g : Graph) (m : Model) : Type 0 where
  pub valid : Valid g
  pub model : meaning g ≡ m

-- resolve where its questions are answered yes
resolve_answered : (m : Model) (l r : ℕ) (xs : List Candidate) (entries : List (List ℕ)) → place_of m.bundles l ≡ Some r
    → places_for (length xs) entries ≡ true → resolve_outcome m l xs entries ≡ resolved (keep (λ x. is_offered m x r) xs) entries
resolve_answered m l r xs entries p b = λ i. resolve_judged (is_installed (p i)) (b i) (keep (λ x. offered_from m x (p i)) xs) entries

-- a valid record answers as the routes of what it means say
answers : {c : Interface} → Meets c → {g : Graph} {m : Model} → Means g m → Answers c g m
answers t {g} {m} w = record {
  routes = λ {l} {r} {kind} {number} {version} {entry} {exit} {a} p k b q.
      shown_says m legal (item kind number version) r entry exit a
      (t.routes q ∙ ap (λ (x : Model). route_outcome x l kind number version entry) w.model
      ∙ rw (p, le-leb kind 2 k, le-leb regions (length entry) b));
  finds = λ {k} {l} {r} {xs} {entry} {exit} {a} p b q.
      kept_says written (λ n. Seen m (item (kind_number k) n 0) r) (λ n. sees m (item (kind_number k) n 0) r)
      (λ n. sees_seen m legal (item (kind_number k) n 0) r) (λ n. seen_sees m legal (item (kind_number k) n 0) r) xs entry exit a
      (t.finds q ∙ ap (λ (x : Model). find_outcome x k l xs entry) w.model ∙ rw (p, le-leb (length xs) (length entry) b));
  events = λ {k} {number} {xs} {entry} {exit} {a} p b q.
      kept_says written (λ l. InstalledWhere m l (Seen m (item (kind_number k) number 0)))
      (λ l. sees_from m (item (kind_number k) number 0) (place_of m.bundles l))
      (λ l. listener_sees m legal (item (kind_number k) number 0) l) (λ l. sees_listener m legal (item (kind_number k) number 0) l) xs entry exit a
      (t.events q ∙ ap (λ (x : Model). event_outcome x k xs number entry) w.model ∙ rw (p, le-leb (length xs) (length entry) b));
  resolves = λ {l} {r} {xs} {entries} {exits} {a} p b q.
      kept_says written_parts (λ x. Offered m x r) (λ x. is_offered m x r) (λ x. test_offered m legal x r) (λ x. offered_test m legal x r)
      xs entries exits a (t.resolves q ∙ ap (λ (x : Model). resolve_outcome x l xs entries) w.model ∙ resolve_answered m l r xs entries p b);
}
  where
    legal : Legal m
    legal = subst Legal w.model w.valid.good

-- The induction over any kind of step: where each step keeps the tie between state and model and answers as the model does, a whole list
-- does.
module _ {S C A M : Type 0} (Step : S → C → A → S → Type 0) (answer : M → C → A) (next : M → C → M) (Tied : S → M → Type 0)
    (each : (s t : S) (c : C) (a : A) (m : M) → Tied s m → Step s c a t → (a ≡ answer m c) × Tied t (next m c)) where
  pub steps : {s u : S} {cs : List C} {given : List A} {m : M} → Tied s m → Steps Step s cs given u
      → (given ≡ answers_by answer next m cs) × Tied u (run_by next m cs)
  steps h none = (refl, h)
  steps {m = m} h (more {s = s} {t = t} {c = c} {a = a} p ps) =
      let e = each s t c a m h p in
      let r = steps e.1 ps in
      ((λ i. e.0 i ∷ r.0 i), r.1)

-- a changing call keeps it, and gives the model's number
follows_means : {g h : Graph} {c : Call} {n : ℕ} {m : Model} → Means g m → Follows g c (record { graph = h; number = n })
    → (n ≡ number m c) × Means h (after m c)
follows_means {c = c} t f =
    (f.number ∙ ap (λ (m : Model). number m c) t.model, record { valid = f.valid; model = f.next ∙ ap (λ (m : Model). after m c) t.model })

started : {c : Interface} → Meets c → {g : Graph} {m : Model} → Started c g m → Means g m
started t (from_empty e) = let x = t.empties e in record { valid = x.valid; model = x.model }
started t (from_archive p z f) = let r = t.reads p in record { valid = r.valid; model = accepted_model r z f }

-- after a list of calls the numbers are the model's, and the record means the model after it
pub list_means : {c : Interface} → Meets c → {g h : Graph} {m : Model} {cs : List Call} {ns : List ℕ} → Started c g m → Steps c.changes g cs ns h
    → (ns ≡ numbers m cs) × Means h (run m cs)
list_means {c} t s ps = steps c.changes number after Means (λ g h k n m i p. follows_means i (t.changes p)) (started t s) ps

pub whole_lists : {c : Interface} → Meets c → WholeLists c
whole_lists t =
    record {
      every_list = λ s ps.
          let w = list_means t s ps in
          (w.0, answers t w.1);
    }

-- ---- demand 2

pub hooks_give_net : {c : Interface} → Meets c → HooksGiveNet c
hooks_give_net t =
    record {
      finds = λ {g} {k} {l} {r} v net n p b q.
          let m = meaning g in
          let h = place_member m v.good l r p in
          let s = seen_net m v.good in
          let i : ℕ → Item = λ x. item (kind_number k) x 0 in
          kept_same (λ x. same_net (s (i x)) (n (i x)) r h) (λ x. same_net (n (i x)) (s (i x)) r h) ((answers t (itself v)).finds p b q);
      events = λ {g} {k} {number} v net n p b q.
          let m = meaning g in
          let s = seen_net m v.good in
          let i = item (kind_number k) number 0 in
          kept_same (λ l w. (w.0, w.1, same_net (s i) (n i) w.0 (place_member m v.good l w.0 w.1) w.2))
          (λ l w. (w.0, w.1, same_net (n i) (s i) w.0 (place_member m v.good l w.0 w.1) w.2))
          ((answers t (itself v)).events p b q);
      resolves = λ {g} {l} {r} v net n p b q.
          let m = meaning g in
          let h = place_member m v.good l r p in
          let o = offered_net m v.good in
          kept_same (λ x. same_net (o x) (n x) r h) (λ x. same_net (n x) (o x) r h) ((answers t (itself v)).resolves p b q);
    }
  where
    itself : {g : Graph} → Valid g → Means g (meaning g)
    itself v = record { valid = v; model = refl }

pub archive_inverts : {c : Interface} → Meets c → ArchiveInverts c
archive_inverts t =
    record {
      write_read = λ {g} {old} {h} {entry} {exit} {k} {n} v w p.
          let r = t.reads p in
          let q = image_accepted r latest (meaning g) v.good (refl, written_image (meaning g) entry exit k (t.writes v w)) in
          (q.0, meaning_injective h g r.valid v q.1);
      read_write = λ {s} {old} {h} {n} {entry} {exit} {a} p z first b w.
          let r = t.reads p in
          let e : archived a exit ≡ archived (Written.Bytes (length s)) (written s entry) =
          t.writes r.valid w
          ∙ image_written (meaning h) s entry (subst (λ (v : ℕ). image_in v (meaning h) ≡ s) first (accepted_image r z).1) b in
          (ap (λ (o : Outcome Written (List ℕ)). o.answer) e, ap (λ (o : Outcome Written (List ℕ)). o.exit) e);
      one_image = λ g h v w e.
          meaning_injective g h v w (images.one_image latest latest (meaning g) (meaning h) (v.good, refl) (w.good, refl) e).1;
      older_read = λ {s} {old} {h} p z u.
          let i = accepted_image (t.reads p) z in
          ⊎_elim (λ e. absurd (u e)) (λ q. (q.0, subst (λ (v : ℕ). image_in v (meaning h) ≡ s) q.1 i.1))
          (in_cases (get_or s 0 0) (meaning h) i.0);
      older_accepted = λ {g} {old} {h} v u p.
          let r = t.reads p in
          let q = image_accepted r (older_version (meaning g).regions) (meaning g) v.good (older_in (meaning g) u refl, refl) in
          (q.0, meaning_injective h g r.valid v q.1);
      others_refused = λ u p.
          let r = t.reads p in
          (others_refused r u, r.kept (others_refused r u));
    }

-- ---- the archive query

-- the place of a bundle that is installed
placed : (p : Option ℕ) → is_installed p ≡ true → (r : ℕ) × (p ≡ Some r)
placed (Some r) e = (r, refl)
placed None e = false_true e

seen_or_not : (m : Model) → Legal m → (i : Item) (r : ℕ) → QuerySays m i r (pick (sees m i r) seen_number hidden_number)
seen_or_not m h i r = go (sees m i r) refl
  where
    go : (b : Bool) → sees m i r ≡ b → QuerySays m i r (pick b seen_number hidden_number)
    go true e = says_seen (sees_seen m h i r e)
    go false e = says_unseen (λ p q. false_true (sym e ∙ seen_sees m h i r (p, q)))

pub queries_answer : {c : Interface} → Meets c → QueriesAnswer c
queries_answer t =
    record {
      asks = λ {s} {l} {kind} {number} {version} {v} p f z.
          let m = read_model f in
          let q = placed (place_of m.bundles l) (all_yes (query_questions f l kind) (refl, (refl, (refl, (refl, (refl, tt))))) z).1.1.1.0 in
          let e : v ≡ pick (sees m (item kind number version) q.0) seen_number hidden_number =
          t.asks p f ∙ pick_yes _ _ (eq-eqb (first_no (query_questions f l kind)) not_refused z)
          ∙ ap (λ (x : Option ℕ). pick (sees_from m (item kind number version) x) seen_number hidden_number) q.1 in
          (q.0, q.1, subst (QuerySays m (item kind number version) q.0) (sym e) (seen_or_not m (model_legal f) (item kind number version) q.0));
    }

pub demands : {c : Interface} → Meets c → Demands c
demands t =
    record {
      refusals = refused_as_asked t;
      hooks = hooks_give_net t;
      archive = archive_inverts t;
      whole_lists = whole_lists t;
      queries = queries_answer t;
    }

-- ---- the two interfaces

pub demands_by_value : Demands by_value
demands_by_value = demands meets_by_value

pub demands_lent : Demands lent
demands_lent = demands meets_lent
