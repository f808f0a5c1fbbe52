-- Two worlds are the same either way round.
use Rattle.std.proofs.Common.{List, [], ◌∷◌, Option, Some, None, sym, ap, subst, ◌∙◌}
use Rattle.std.specs.List.{AllByRecursion, AllZip}
use Rattle.fed_origin.specs.declared.options.ProviderOptions.{ProviderOptions}
use Rattle.fed_origin.specs.WebUrl.{host_of}
use Rattle.fed_call.specs.Accounts.{Offered}
use Rattle.fed_call.specs.Facts.{Facts}
use Rattle.fed_trace.specs.Known.{facts_at}
use Rattle.fed_trace.specs.Trace.{Trace}
use Rattle.fed_twin.specs.Providers.{Providers, is_provider}
use Rattle.fed_twin.specs.Same.{SameProvider, SameOffered, HasOwn, is_open, SameFacts, SameCall, SameWorlds}

flip_provider : (p : Providers) (a b : ProviderOptions) → SameProvider p a b → SameProvider p b a
flip_provider p a b h =
    record {
      shares = record { config = sym h.shares.config; login_hint = sym h.shares.login_hint; domain_hint = sym h.shares.domain_hint };
      known = ap (λ c. is_provider p (host_of c)) (sym h.shares.config) ∙ h.known;
    }

flip_all : (p : Providers) (xs ys : List ProviderOptions) → AllZip (SameProvider p) xs ys → AllZip (SameProvider p) ys xs
flip_all p [] [] h = tt
flip_all p [] (y ∷ ys) h = absurd h
flip_all p (x ∷ xs) [] h = absurd h
flip_all p (x ∷ xs) (y ∷ ys) h = (flip_provider p x y h.0, flip_all p xs ys h.1)

flip_offered : (p : Providers) (us vs : List Offered) → AllZip (SameOffered p) us vs → AllZip (SameOffered p) vs us
flip_offered p [] [] h = tt
flip_offered p [] (v ∷ vs) h = absurd h
flip_offered p (u ∷ us) [] h = absurd h
flip_offered p (u ∷ us) (v ∷ vs) h = (
  record {
    place = sym h.0.place;
    options = flip_provider p u.options v.options h.0.options;
    config = sym h.0.config;
    account = sym h.0.account;
  },
  flip_offered p us vs h.1,
)

pub flip_facts : (p : Providers) (f f' : Facts) → SameFacts p f f' → SameFacts p f' f
flip_facts p f f' s =
    record {
      stage = sym s.stage;
      goes_on = ap is_open (sym s.stage) ∙ s.goes_on;
      said = record {
        options = record {
          mediation = sym s.said.options.mediation;
          mode = sym s.said.options.mode;
          activation = sym s.said.options.activation;
          providers = flip_all p f.options.providers f'.options.providers s.said.options.providers;
        };
        progress = sym s.said.progress;
        known = subst (AllByRecursion (HasOwn p)) s.said.progress s.said.known;
        offered = flip_offered p f.offered f'.offered s.said.offered;
      };
    }

pub flip_call : (p : Providers) (f f' : Option Facts) → SameCall p f f' → SameCall p f' f
flip_call p None None h = tt
flip_call p (Some f) (Some f') h = flip_facts p f f' h
flip_call p None (Some f') h = absurd h
flip_call p (Some f) None h = absurd h

pub flip_worlds : (p : Providers) (T U : Trace) → SameWorlds p T U → SameWorlds p U T
flip_worlds p T U h =
    record {
      rules = h.rules';
      rules' = h.rules;
      now = sym h.now;
      seen = sym h.seen;
      calls = λ call. flip_call p (facts_at T call) (facts_at U call) (h.calls call);
    }
