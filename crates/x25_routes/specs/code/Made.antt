-- The routes that were made.
use Rattle.std.specs.Prelude.{List}
use Rattle.x25_routes.specs.Route.{PlainRoute}
use Rattle.x25_routes.specs.declared.routes.Routes.{Routes}

abbrev pub made : Routes → List PlainRoute
made r = r.routes.items
