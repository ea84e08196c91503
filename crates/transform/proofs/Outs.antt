-- An out row is alone on its channel exactly where no earlier out row has that channel.
use Rattle.std.proofs.Common.{◌≡◌, ℕ, ◌<◌, Bool, true, false, not, eqb, List, length, take, sym, ap, ◌∙◌, subst, arith}
use Rattle.std.proofs.lemmas.Bool.{and_parts, and_from, eqb-true, eq-eqb}
use Rattle.std.proofs.lemmas.List.{get_or-take, get_or_default, length-take}
use Rattle.std.proofs.lemmas.List.Folds.{list_any_at, Any-from_list_any}
use Rattle.std.specs.List.{list_any}
use Rattle.transform.specs.Parts.{no_row, is_out, row_at}
use Rattle.transform.specs.Rules.{out_on, out_alone, SameOut}
use Rattle.transform.specs.Tests.{◌implies◌}
use Rattle.transform.specs.declared.parts.Row.{Row}

module _ (rows : List Row) where
  -- an earlier out row with the channel of an out row shows that this is not alone
  pub not_alone : (i j : ℕ) → i < length rows → j < i → SameOut rows j i → out_alone (take i rows) (row_at rows i) ≡ false
  not_alone i j m l s =
      let r = row_at rows i in
      let e = row_at rows j in
      let on = and_from (is_out e) (eqb e.channel r.channel) s.first (eq-eqb e.channel r.channel s.channel) in
      let there : j < length (take i rows) = omega (arith, length-take i rows) in
      let read = get_or-take i rows j no_row l in
      let found = list_any_at (λ e. out_on e r.channel) (take i rows) j no_row there (ap (λ e. out_on e r.channel) read ∙ on) in
      ap (λ out. out implies not (list_any (λ e. out_on e r.channel) (take i rows))) s.second ∙ ap not found

  -- what an implication that fails says
  refuted : (out before : Bool) → (out implies not before) ≡ false → (out ≡ true) × (before ≡ true)
  refuted out before h = grind arith

  -- where an out row is not alone, there is an earlier one with its channel
  pub shared_before : (i : ℕ) → out_alone (take i rows) (row_at rows i) ≡ false → (j : ℕ) × ((j < i) × SameOut rows j i)
  shared_before i h =
      let p = refuted (is_out (row_at rows i)) (list_any (λ e. out_on e (row_at rows i).channel) (take i rows)) h in
      let q = Any-from_list_any (λ e. out_on e (row_at rows i).channel) (take i rows) p.1 in
      let r = row_at rows q.0 in
      let below : q.0 < i = omega (arith, q.2, length-take i rows) in
      let read : q.1 ≡ r = sym q.3 ∙ get_or_default (take i rows) q.0 q.1 no_row q.2 ∙ get_or-take i rows q.0 no_row below in
      let on : out_on r (row_at rows i).channel ≡ true = subst (λ e. out_on e (row_at rows i).channel ≡ true) read q.4 in
      let both = and_parts (is_out r) (eqb r.channel (row_at rows i).channel) on in
      (q.0, (below, record { first = both.0; second = p.0; channel = eqb-true r.channel (row_at rows i).channel both.1 }))
