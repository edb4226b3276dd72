use Rattle.std.proofs.Common.{Ok, subst, sym, arith}
use Rattle.et_files.specs.Loaded.{IsListingOf}
use Rattle.et_files.proofs.Answered.{one_answered, loads_refused}
use Rattle.et_files.proofs.Found.{tells_more, listing_not_read}
use Rattle.et_files.proofs.listings.load_listing.Goals as goal

pub returns : goal.returns
returns g c = record {
  tells = λ held told found is.
      tells_more _ _ found c.listing_in.result (c.listing_in.ensures.tells found (subst (λ bytes. IsListingOf (Ok bytes) found) (sym c.deref.ensures.value) (subst (λ file. IsListingOf file found) (c.in_ok-text.ensures.tells (g.F.Files.asked c.args.files.now) held (omega arith) told) is)));
  read = one_answered g.F.Files _ _ _ _ c.in_ok-text.text c.listing_in.result c.in_ok-text.ensures.read c.listing_in.ensures.bytes c.listing_in.ensures.names;
}

pub returns-in_err-text : goal.returns-in_err-text
returns-in_err-text g c =
    loads_refused g.F.Files _ _ _ _ _ _ (λ read found r h. h) listing_not_read c.in_err-text.field-0.0 c.from_residual.result c.from_residual.ensures.1 c.in_err-text.ensures.read (λ held told. c.in_err-text.ensures.tells (g.F.Files.asked c.args.files.now) held (omega arith) told)
