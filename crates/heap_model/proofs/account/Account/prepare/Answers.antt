use Rattle.std.proofs.Common.{inl, inr, ap, sym, ◌∙◌, subst, Contains, rules}
use Rattle.heap_model.specs.declared.entry.Entry.TheVariants as entries
use Rattle.heap_model.specs.account.Books.{Books}
use Rattle.heap_model.proofs.account.Account.prepare.Goals as goal

pub returns-in_ok-add-in-Swings-clause-prepared : goal.returns-in_ok-add-in-Swings-clause-prepared
returns-in_ok-add-in-Swings-clause-prepared c = record {
  rest = search rules;
  swung = λ id.
      let added = c.in_ok-add-in-Swings.ensures.added id in (
        λ h. elim (added.0 h) [
          | inl old ↦ inl (subst (λ (b : Books). Contains b.swung id) c.self-in-Swings.view_is old)
          | inr now ↦ inr (c.in-Swings.is ∙ ap entries.Swings (sym now))
        ],
        λ h. added.1 (elim h [
          | inl old ↦ inl (subst (λ (b : Books). Contains b.swung id) (sym c.self-in-Swings.view_is) old)
          | inr now ↦ inr (cc (sym c.in-Swings.is ∙ now))
        ]),
      );
  begun = search rules;
  same = search rules;
  made = search rules;
}
